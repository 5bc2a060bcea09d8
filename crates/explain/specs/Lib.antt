pub mod Answers
pub mod LookupReason
pub mod StepReason
pub mod Told
pub mod Why
pub mod Computed
pub mod Inner
