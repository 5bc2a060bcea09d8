-- What only the code and its proofs speak of.
pub mod Opened
pub mod Passed
pub mod Reliable
pub mod Requires
