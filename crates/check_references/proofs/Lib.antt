pub mod Counting
pub mod Tallies
pub mod Wilds
pub mod Visited
pub mod Eights
pub mod Folds
