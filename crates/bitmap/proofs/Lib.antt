pub mod Bits
pub mod Maps
pub mod Runs
pub mod Zeros
pub mod Rewrites
pub mod Digits
pub mod Masks
