pub mod Line
pub mod Sentence
pub mod Lemmas
