pub mod IntelHex
pub mod Grammar
pub mod Inner
pub mod Lemmas
pub mod Theorems
