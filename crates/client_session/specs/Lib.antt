pub mod Lines
pub mod Lists
pub mod Requests
pub mod Reading
pub mod Session
pub mod Refusal
