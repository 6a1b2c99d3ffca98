pub mod Bit
pub mod Byte
