pub mod Eights
pub mod Chains
pub mod Aligned
