-- Cases of the definitions beside: evidence, which has not to be believed.
pub mod SmallHeaps
pub mod HeapCases
