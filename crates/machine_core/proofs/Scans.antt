pub mod Rows
pub mod Laws
pub mod Heard
pub mod Kept
pub mod Size
pub mod Jobs
pub mod Turns
