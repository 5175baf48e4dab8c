pub mod FirstLine
pub mod Guarded
