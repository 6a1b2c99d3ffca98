pub mod Replay
pub mod Theory
