pub mod Shapes
pub mod Counts
pub mod CountUp
pub mod Stack
pub mod Worked
