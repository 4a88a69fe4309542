pub mod Lines
pub mod Inner
pub mod Lemmas
