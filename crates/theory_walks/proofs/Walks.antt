-- The walk over what the roots lead to (requests U13 and U11): its numbers, what it meets, and what it says
-- of equal heaps.
pub mod Numbers
pub mod Steps
pub mod Alike
pub mod Joined
pub mod Reached
pub mod Equal
pub mod Bounds
pub mod Chains
pub mod Words
pub mod Trails
pub mod Least
pub mod Rule
pub mod Best
pub mod Order
