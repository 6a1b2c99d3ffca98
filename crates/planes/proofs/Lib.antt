pub mod PlaneBits
pub mod Counts
pub mod Eights
