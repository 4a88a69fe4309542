pub mod Oath
