pub mod Meeting
pub mod Numbering
pub mod Tracing
pub mod TracedHeap
pub mod Linking
pub mod Beginning
