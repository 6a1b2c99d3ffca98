pub mod Ready
pub mod Stack
