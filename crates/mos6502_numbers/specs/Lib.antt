pub mod Packed
pub mod Machines
pub mod Lemmas
