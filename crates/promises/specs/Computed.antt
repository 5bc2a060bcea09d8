-- What the code computes, and its contracts cite: no demand needs it to be believed.
pub mod OurReaders
pub mod Ours
