pub mod Cases
pub mod Ending
pub mod Frames
pub mod Numbers
pub mod Told
pub mod Computed
pub mod Inner
