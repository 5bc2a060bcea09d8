pub mod Environment
pub mod Exported
pub mod Linked
