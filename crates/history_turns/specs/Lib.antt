pub mod Turns
pub mod Stopped
pub mod Outcomes
pub mod Steps
