pub mod Batch
pub mod Theory
