pub mod BySections
pub mod SearchedParts
