pub mod Sentences
pub mod Reasons
