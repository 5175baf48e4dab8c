-- The song that is open between two orders, and how an order stands to it.
use Rattle.std.specs.Prelude.{◌≡◌, ℕ, ◌+◌, ◌==◌, nat_lt, ◌&&◌, List, Option, Some, None, Ok, if◌then◌else◌, IfSome}
use Rattle.std.specs.Str.{bytes_eq}
use Rattle.song_files.specs.Folder.{File, bytes_at}
use Rattle.wave_pcm.specs.Pcm.{HasFrames}
use Rattle.player_core.specs.declared.order.PlayOrder.{PlayOrder}
use Rattle.song_output.specs.declared.open_song.OpenSong.{OpenSong}
use Rattle.song_output.specs.declared.open_song.OrderKind.{OrderKind}
use Rattle.song_output.specs.declared.open_song.OrderKind.TheVariants.{Next, Ended, Other}
use Rattle.song_output.specs.Sound.{head_of}

-- by the frame that follows what was played, and the ordered one
abbrev pub kind_by : ℕ → ℕ → OrderKind
kind_by next first = if first == next then Next else if nat_lt first next then Ended else Other

-- an order of the same ticket and URI goes on; where it goes back, the song has ended
abbrev pub kind_of : {S : Type 0} → Option (OpenSong S) → PlayOrder → OrderKind
kind_of None order = Other
kind_of (Some song) order =
    if song.ticket == order.ticket && bytes_eq song.uri order.uri then kind_by song.next_frame order.first_frame else Other

-- the source has the bytes of the file at the song's URI and keeps them, and the head is that of these bytes
pub record IsOpenSong {S : Type 0} (bytes : S → List ℕ) (honest : S → Type 0) (files : List File) (song : OpenSong S) : Type 0 where
  pub is_honest : honest song.source
  pub same : bytes_at files song.uri ≡ Some (bytes song.source)
  pub head : head_of (bytes song.source) ≡ Ok song.info
  pub frames : HasFrames song.info (bytes song.source)

-- what is open, if anything is, is a song of these files
abbrev pub IsOpen : {S : Type 0} → (S → List ℕ) → (S → Type 0) → List File → Option (OpenSong S) → Type 0
IsOpen bytes honest files song = IfSome song (IsOpenSong bytes honest files)

-- the reads of what is open never fail
abbrev pub IsSteady : {S : Type 0} → (S → Type 0) → Option (OpenSong S) → Type 0
IsSteady steady song = IfSome song (λ s. steady s.source)

-- the song of an order is open, and so many of its frames were played
pub record IsPlayedTo {S : Type 0} (order : PlayOrder) (count : ℕ) (song : OpenSong S) : Type 0 where
  pub ticket : song.ticket ≡ order.ticket
  pub uri : song.uri ≡ order.uri
  pub next_frame : song.next_frame ≡ order.first_frame + count

-- the same song of the same order, and the same head
pub record IsSameSong {S : Type 0} (old new : OpenSong S) : Type 0 where
  pub ticket : new.ticket ≡ old.ticket
  pub uri : new.uri ≡ old.uri
  pub info : new.info ≡ old.info
