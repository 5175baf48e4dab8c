pub mod Refusal
pub mod Subsystem
pub mod Subsystems
pub mod Watched
