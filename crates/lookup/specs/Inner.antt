-- What only the code and its proofs speak of.
pub mod Opened
pub mod Reached
pub mod Requires
pub mod Search
