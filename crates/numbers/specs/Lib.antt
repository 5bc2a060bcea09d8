pub mod Agree
pub mod Field
pub mod Signed
pub mod Start
pub mod Computed
pub mod Inner
