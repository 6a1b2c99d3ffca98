pub mod Answered
pub mod LowestChunk
pub mod Parts
pub mod Walk
