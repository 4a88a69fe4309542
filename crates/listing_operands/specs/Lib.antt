pub mod Operands
pub mod Inner
pub mod Lemmas
