pub mod Kept
pub mod Limits
pub mod Open
pub mod Paths
pub mod Pictures
