pub mod Asked
pub mod Meaning
pub mod Readable
