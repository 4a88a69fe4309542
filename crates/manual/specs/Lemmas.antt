pub mod Programs
pub mod IntegerLemmas
