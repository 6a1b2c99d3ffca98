pub mod Walks
pub mod Sentences
