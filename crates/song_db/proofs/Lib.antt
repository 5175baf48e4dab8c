pub mod Batches
pub mod BatchSteps
pub mod Beginnings
pub mod Below
pub mod BelowOrder
mod Counts
mod DecodedEndings
pub mod Differences
mod DistinctTexts
mod Exchanged
mod FolderRuns
mod Folders
mod Follows
pub mod Gathered
mod GroupMaps
mod Groups
mod HonestSteps
mod Indexed
mod Known
mod KnownRows
mod KnownSongs
mod LastRow
mod LetterKeys
mod LetterSteps
mod ListedSteps
mod ListedTold
mod Opened
mod Ordered
mod NewFolders
mod OwnSteps
mod Picked
mod PlainTags
mod Prefixes
mod ReaderSteps
mod ReadSteps
pub mod Replaced
pub mod Rising
pub mod RowPlaces
mod RowSplits
pub mod SameRows
mod ShortTags
pub mod SixTexts
mod Slashes
mod TagCounts
mod Taken
pub mod TextSteps
mod LentOrder
mod ToldBelow
mod ToldFolders
mod ToldFollows
mod ToldKeys
mod ToldOrder
mod ToldWhole
mod IndexedValues
pub mod Timing
pub mod Turns
mod WalkOrder
mod Walks
