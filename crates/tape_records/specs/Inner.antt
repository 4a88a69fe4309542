pub mod Lawful
pub mod Reading
pub mod Items
pub mod Gaps
