pub mod Line
pub mod Lemmas
