pub mod Asked
pub mod Exactly
mod Examples
pub mod FindingLaws
pub mod Linked
pub mod LookedUpLaws
pub mod MachineLaws
pub mod NumberLaws
pub mod RegisterLaws
pub mod SignatureLaws
pub mod Signed
pub mod StepLaws
pub mod TestLaws
pub mod ToldLaws
