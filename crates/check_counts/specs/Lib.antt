pub mod Lanes
pub mod Late
