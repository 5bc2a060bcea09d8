-- What the code computes, and its contracts cite. That it says what the files above this folder say is proved: no promise needs
-- these to be believed.
pub mod Lines
pub mod Reader
pub mod Turns
