pub mod Following
pub mod Inner
pub mod Lemmas
