-- What holds of a usable heap, and of what the work of a call gives there.
pub mod UsableHeap
pub mod UsableAfterCalls
pub mod WorkDone
