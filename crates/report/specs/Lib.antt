pub mod Meaning
pub mod Theory
