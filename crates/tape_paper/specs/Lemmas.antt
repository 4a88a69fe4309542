pub mod Items
pub mod Lawful
pub mod Writing
