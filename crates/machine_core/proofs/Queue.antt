pub mod Lines
pub mod Meanings
pub mod Shuffled
pub mod Around
pub mod Answered
