pub mod Comparison
pub mod SameBytes
pub mod Verdicts
pub mod Inner
pub mod Lemmas
