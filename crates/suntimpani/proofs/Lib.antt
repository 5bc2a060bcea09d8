pub mod AskLossless
pub mod Linked
pub mod Lossless
