pub mod Arrays
pub mod NameTable
