pub mod AcceptedLaws
pub mod CauseLaws
pub mod Decides
pub mod Edges
pub mod Exactly
mod Examples
pub mod FaultLaws
pub mod HeaderLaws
pub mod InOrder
pub mod Linked
pub mod RowLaws
pub mod RuleLaws
pub mod SignedTests
pub mod ToldLaws
pub mod TriedAgreement
pub mod TurnLaws
pub mod WalkLaws
