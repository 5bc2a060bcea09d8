pub mod AreaLaws
pub mod Linked
pub mod ListedLaws
pub mod OffsetLaws
pub mod PartAgreement
pub mod RowAgreement
mod SameExamples
pub mod SameLaws
