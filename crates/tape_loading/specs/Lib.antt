pub mod Answers
pub mod Sentence
pub mod Texts
pub mod Inner
pub mod Lemmas
pub mod Theorems
