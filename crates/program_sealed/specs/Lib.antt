pub mod Runs
pub mod Lemmas
