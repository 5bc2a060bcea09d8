-- What only the code and its proofs speak of.
pub mod Digits
pub mod Held
pub mod Opened
pub mod Shift
