pub mod AlbumNames
pub mod Answers
pub mod Asked
pub mod Chunks
pub mod CoverError
pub mod Limits
pub mod SongPictures
