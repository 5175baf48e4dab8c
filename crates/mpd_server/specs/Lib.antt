pub mod Ends
pub mod Lines
pub mod Openings
pub mod Turns
