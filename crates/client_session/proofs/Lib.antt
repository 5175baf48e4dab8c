pub mod ByteLaws
pub mod Newlines
pub mod Streams
pub mod Steps
pub mod Sessions
pub mod StreamLaws
pub mod ListLaws
pub mod ReadLines
