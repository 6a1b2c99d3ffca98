pub mod Start
pub mod Theorems
