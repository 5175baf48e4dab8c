mod FolderFiles
pub mod KnownNames
mod Listings
mod PlaceList
mod PlacesAdded
pub mod Ranges
pub mod Sources
pub mod TagNumbers
mod TagRowList
mod TagSets
pub mod TagTexts
pub mod Texts
