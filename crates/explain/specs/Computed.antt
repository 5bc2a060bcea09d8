-- What the code computes, and its contracts cite. That it holds and implies the answer is proved: no demand needs these to be
-- believed.
pub mod Coverers
pub mod Each
pub mod Lookup
pub mod Nearest
pub mod Step
pub mod Sum
