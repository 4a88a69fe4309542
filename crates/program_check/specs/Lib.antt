pub mod Concluded
pub mod Inner
pub mod Lemmas
