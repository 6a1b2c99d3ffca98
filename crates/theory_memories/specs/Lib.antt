pub mod Words
pub mod Sound
pub mod Heaps
pub mod Orders
pub mod Marks
pub mod Sections
pub mod Cells
