pub mod Records
pub mod Alike
pub mod Pieces
pub mod OldForm
pub mod Output
pub mod Theorems
