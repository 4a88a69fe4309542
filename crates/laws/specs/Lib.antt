pub mod Answers
pub mod Characters
pub mod Lemmas
