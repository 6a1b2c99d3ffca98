pub mod Gathers
pub mod Counts
