pub mod Lemmas
pub mod Maps
