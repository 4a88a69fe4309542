pub mod Modes
pub mod Opcodes
pub mod Lemmas
pub mod Theorems
