pub mod Packs
pub mod Eights
pub mod Late
