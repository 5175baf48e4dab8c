pub mod Channel
pub mod Limited
pub mod Limits
pub mod Listeners
pub mod Messages
pub mod Names
pub mod Refusal
