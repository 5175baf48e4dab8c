pub mod Steps
pub mod Meanings
