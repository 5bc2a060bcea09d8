pub mod Agreement
pub mod AsLookup
pub mod CaseLaws
pub mod ComparedLaws
pub mod Exactly
mod Examples
pub mod Linked
pub mod ReadLaws
pub mod SoughtLaws
pub mod ToldLaws
pub mod WalkLaws
