pub mod NewHeap
