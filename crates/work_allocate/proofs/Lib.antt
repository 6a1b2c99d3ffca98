pub mod AllocationAnswer
