pub mod AddressLaws
pub mod AgreeLaws
pub mod DiffLaws
mod Examples
pub mod FieldLaws
pub mod HeldLaws
pub mod Linked
pub mod SignedLaws
