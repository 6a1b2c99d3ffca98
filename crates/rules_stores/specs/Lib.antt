pub mod Store
pub mod Collection
pub mod Evidence
