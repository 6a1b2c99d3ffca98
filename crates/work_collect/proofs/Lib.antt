pub mod Collects
pub mod CollectionAnswer
