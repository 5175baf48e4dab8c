mod Ascii
mod Chosen
mod Comparisons
mod Days
mod Enclosing
mod Expressions
mod Groups
mod Keys
mod LikeTexts
mod Occurrence
mod Pairs
mod Pieces
pub mod Rows
pub mod Sorting
mod Spelling
mod Texts
pub mod Windows
