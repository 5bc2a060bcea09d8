pub mod Fault
pub mod Given
pub mod Rules
pub mod Told
pub mod Tried
pub mod Verdict
pub mod Computed
pub mod Inner
