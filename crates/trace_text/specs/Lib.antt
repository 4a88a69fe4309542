pub mod Entries
pub mod Findings
pub mod Lemmas
