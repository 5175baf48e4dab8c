pub mod BehindLaws
pub mod FaultLaws
pub mod Overwrites
mod Replay
mod ReplayedMoments
pub mod ImageLaws
pub mod LaterLaws
pub mod LengthLaws
pub mod MomentLaws
pub mod WindowLaws
mod Written
