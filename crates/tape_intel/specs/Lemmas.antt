pub mod Items
pub mod Lawful
