pub mod Following
pub mod Left
pub mod Moves
pub mod Kept
pub mod InStep
pub mod Again
pub mod Machine
