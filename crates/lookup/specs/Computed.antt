-- What the code computes, and its contracts cite. That it says what the files above this folder say is proved: no demand needs
-- these to be believed.
pub mod Answers
pub mod Covering
pub mod Rows
