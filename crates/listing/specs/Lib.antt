pub mod Described
pub mod Functions
pub mod Listing
pub mod Told
pub mod Computed
pub mod Inner
