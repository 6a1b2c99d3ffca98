pub mod Steps
pub mod Evidence
