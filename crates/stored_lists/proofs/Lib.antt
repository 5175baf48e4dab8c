pub mod Absent
mod ByName
pub mod Counted
mod Last
pub mod Renamed
pub mod Replaced
pub mod Timed
mod Turned
