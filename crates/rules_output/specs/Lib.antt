pub mod Walk
pub mod Shape
pub mod Reason
pub mod Sentence
pub mod Evidence
