pub mod Steps
pub mod Flags
