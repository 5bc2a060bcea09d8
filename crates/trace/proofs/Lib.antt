pub mod Asked
pub mod BufferLaws
pub mod CaseLaws
pub mod DoorLaws
pub mod Exactly
mod Examples
pub mod GoingLaws
pub mod Linked
pub mod NumberLaws
pub mod Signed
pub mod ToldLaws
pub mod TraceLaws
pub mod WalkLaws
