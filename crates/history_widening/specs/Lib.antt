pub mod Widening
pub mod Claims
pub mod Theory
