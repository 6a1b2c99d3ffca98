pub mod Wild
pub mod Tally
