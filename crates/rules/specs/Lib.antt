pub mod Tools
pub mod Heap
pub mod Lent
pub mod Damage
pub mod Sections
pub mod Evidence
