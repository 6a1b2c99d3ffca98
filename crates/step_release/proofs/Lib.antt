pub mod Shadings
