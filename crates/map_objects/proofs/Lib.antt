pub mod Cells
pub mod Firsts
pub mod Naming
pub mod Sizes
pub mod Eights
pub mod Walk
