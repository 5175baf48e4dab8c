pub mod Answers
pub mod DecodedFiles
pub mod DecoderErrors
pub mod Files
pub mod Frames
pub mod Kept
pub mod Pieces
pub mod Sources
