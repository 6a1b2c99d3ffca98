pub mod CheckAtGate
pub mod ClearedHeap
