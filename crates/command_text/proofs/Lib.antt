pub mod Lists
pub mod Parting
pub mod Searches
pub mod Following
pub mod Spelling
pub mod Grammar
pub mod Numerals
pub mod Readings
pub mod Around
pub mod Repeated
pub mod Naming
mod Listing
pub mod LineNames
pub mod Adding
pub mod LineLoops
pub mod AckLength
pub mod ControlLaws
pub mod LinesLaws
pub mod NameSearch
mod WordsText
pub mod Mixed
mod SearchParts
mod SearchCounts
mod FiltersAlone
mod FilterFaults
mod Ends
mod NamedTags
mod MaskLaws
