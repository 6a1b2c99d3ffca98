pub mod Chunks
pub mod Plans
