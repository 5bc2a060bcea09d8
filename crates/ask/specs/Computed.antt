-- What the code computes, and its contracts cite. That it says what the files above this folder say is proved: no promise needs
-- this to be believed.
pub mod Ask
