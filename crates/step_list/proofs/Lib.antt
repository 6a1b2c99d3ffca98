pub mod Bits
pub mod Rising
pub mod Mixing
pub mod MapOf
