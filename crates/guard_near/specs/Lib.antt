pub mod Inner
pub mod Lemmas
