pub mod Runs
pub mod Claims
pub mod RunBy
pub mod Promised
pub mod Theory
pub mod Cases
