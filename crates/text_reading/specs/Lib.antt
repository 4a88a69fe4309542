pub mod Numbers
pub mod Found
pub mod Inner
pub mod Lemmas
