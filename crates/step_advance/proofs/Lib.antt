pub mod Shades
pub mod Goings
pub mod Progresses
pub mod Flags
