pub mod EntryLaws
pub mod GroupLaws
pub mod RoomLaws
pub mod SettlingLaws
pub mod Sounding
