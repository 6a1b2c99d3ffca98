pub mod Planned
pub mod Routes
pub mod Filled
pub mod CopyAnswer
