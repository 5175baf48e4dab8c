mod Added
mod Behind
mod Below
mod ByName
pub mod Counted
mod FoundSongs
mod Flat
mod Named
