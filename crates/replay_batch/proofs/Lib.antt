pub mod Batches
pub mod Theorems
