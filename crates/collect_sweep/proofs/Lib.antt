pub mod Sweeps
pub mod Unmarked
