pub mod Session
pub mod Mixed
