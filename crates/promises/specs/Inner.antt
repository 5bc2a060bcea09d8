-- What only the proofs speak of, and decisions of which any other would do as well.
pub mod Deciding
pub mod Lent
