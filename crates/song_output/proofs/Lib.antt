pub mod Answering
pub mod Appending
pub mod OrderedFrames
pub mod OwnFiles
pub mod Pieces
pub mod Samples
pub mod Supported
