pub mod Misses
pub mod Tests
pub mod TidySame
pub mod TidyOpen
pub mod Reading
