pub mod NameTable
