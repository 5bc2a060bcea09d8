pub mod AskAnswer
pub mod Cases
pub mod Compared
pub mod Numbers
pub mod ReadBy
pub mod Told
pub mod Computed
pub mod Inner
