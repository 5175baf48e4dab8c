pub mod OpenSong
pub mod OwnFile
pub mod Piece
pub mod Sound
pub mod Wave
