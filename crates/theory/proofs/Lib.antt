pub mod EachCall
pub mod Calls
pub mod Collecting
pub mod Demand
pub mod Spaces
pub mod DataLives
pub mod Theorems
pub mod Usable
