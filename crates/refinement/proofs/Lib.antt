pub mod Collection
pub mod ViewMarking
pub mod CollectorSweep
pub mod Bytewise
pub mod CollectorProcedure
pub mod ReadyHeap
