pub mod Added
pub mod BlockStamps
pub mod Blocks
pub mod Bounds
pub mod Built
mod Compacted
pub mod DrawnIds
pub mod Exchanged
pub mod Found
pub mod InOrder
pub mod Kept
mod Located
mod Marked
mod Merged
pub mod Near
pub mod OwnIds
pub mod Searched
pub mod Prioritized
pub mod Ruling
pub mod Sound
pub mod Stamped
pub mod Tops
pub mod Versions
pub mod Where
pub mod WordOrder
pub mod Shuffled
pub mod Moved
pub mod Settled
