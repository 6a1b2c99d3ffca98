pub mod SearchReply
pub mod AllocationReply
