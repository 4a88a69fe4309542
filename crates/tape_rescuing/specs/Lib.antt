pub mod Rescuing
pub mod Sentence
pub mod Inner
pub mod Lemmas
pub mod Theorems
