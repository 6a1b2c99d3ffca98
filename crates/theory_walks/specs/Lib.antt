pub mod Shape
pub mod Trail
pub mod Reason
