-- The sentence of request U11, read back.
pub mod Reading
pub mod Exact
pub mod Says
pub mod Bounds
