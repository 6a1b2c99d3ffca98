pub mod Filling
pub mod Objects
