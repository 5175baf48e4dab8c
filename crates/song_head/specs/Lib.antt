pub mod Added
pub mod FrameTags
pub mod FrameValues
pub mod Genres
pub mod Numbers
pub mod Rows
pub mod SongReading
