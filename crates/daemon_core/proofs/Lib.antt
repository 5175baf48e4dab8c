pub mod PendingLaws
pub mod DoneLaws
pub mod TalkLaws
pub mod HistoryLaws
pub mod ReachedLaws
pub mod RebuildLaws
pub mod RequestLaws
pub mod TellLaws
pub mod RoomLaws
pub mod StepLaws
pub mod RecoverLaws
pub mod ClientLaws
pub mod EndLaws
pub mod LooksLaws
mod QuietLaws
mod StrayLaws
mod KillLaws
mod LeavingLaws
mod UnchangedLaws
mod Lasting
mod FullLaws
mod SoundLaws
mod RestartLaws
mod SongForms
mod SongLaws
mod SeenLaws
mod ListenerLaws
mod ToldLaws
mod Showing
mod PictureLaws
