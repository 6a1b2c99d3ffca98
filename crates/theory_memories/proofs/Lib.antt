pub mod Maps
pub mod Memories
pub mod HeapTheorems
