-- The two maps: the sizes they stand for, free chunks, and the damage test as facts.
pub mod Extents
pub mod Parse
pub mod LowestChunk
pub mod Sections
pub mod Moves
pub mod Totals
pub mod Undamaged
