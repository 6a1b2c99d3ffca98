pub mod Evidence
pub mod Progress
