pub mod Entry
pub mod Header
pub mod Meaning
pub mod Row
pub mod Same
pub mod SectionS
pub mod Shape
pub mod Inner
