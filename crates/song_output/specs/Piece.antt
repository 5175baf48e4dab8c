-- What becomes of an order: the answer, what the output got, and the song that stays open.
use Rattle.std.specs.Prelude.{◌≡◌, ℕ, ◌+◌, ◌<◌, ◌≤◌, Bool, nat_le, List, Option, Some, None, Ok, length, take, IsSomeAnd}
use Rattle.std.specs.Io.KnownBytes.{Appends, Keeps}
use Rattle.song_files.specs.Folder.{File, bytes_at}
use Rattle.wave_pcm.specs.declared.info.WaveInfo.{WaveInfo}
use Rattle.player_core.specs.declared.order.PlayOrder.{PlayOrder}
use Rattle.player_core.specs.declared.failure.BrokenCause.TheVariants.{Source, Output}
use Rattle.song_output.specs.declared.piece.Piece.{Piece}
use Rattle.song_output.specs.declared.piece.Piece.TheVariants.{Written, Failed}
use Rattle.song_output.specs.declared.open_song.OpenSong.{OpenSong}
use Rattle.song_output.specs.declared.output.Form.{Form}
use Rattle.song_output.specs.OpenSong.{IsPlayedTo}
use Rattle.song_output.specs.Sound.{frames_given, head_of, sound_from, ordered_sound}

-- known bytes grew by a front of these
abbrev pub AppendsFront : Option (List ℕ) → Option (List ℕ) → List ℕ → Type 0
AppendsFront before after bytes = (n : ℕ) × Appends before after (take n bytes)

-- known bytes grew by a front of these, and not by all
abbrev pub AppendsPart : Option (List ℕ) → Option (List ℕ) → List ℕ → Type 0
AppendsPart before after bytes = (n : ℕ) × (n < length bytes) × Appends before after (take n bytes)

-- The ordered frames that a file with this head has were written in this form, all of them, up to 4,096; this is their count, and
-- the last of the file is reached where none follows them.
pub record IsWhole (form : Form) (file : List ℕ) (info : WaveInfo) (order : PlayOrder) (before after : Option (List ℕ))
    (count : ℕ) (is_last : Bool) : Type 0 where
  pub sound : Appends before after (sound_from form file info order.first_frame order.volume)
  pub frames : count ≡ frames_given info order.first_frame
  pub last : is_last ≡ nat_le info.frames (order.first_frame + count)

-- what the output got of such a file, by what is answered: nothing where it can't be read
abbrev pub IsPlayed : Form → List ℕ → WaveInfo → PlayOrder → Option (List ℕ) → Option (List ℕ) → Piece → Type 0
IsPlayed form file info order before after (Written count is_last) = IsWhole form file info order before after count is_last
IsPlayed form file info order before after (Failed Source) = Keeps before after
IsPlayed form file info order before after (Failed Output) =
    AppendsPart before after (sound_from form file info order.first_frame order.volume)

-- the same of the file at the order's URI, by the reading of its head
pub record IsWritten (form : Form) (files : List File) (order : PlayOrder) (before after : Option (List ℕ))
    (count : ℕ) (is_last : Bool) : Type 0 where
  pub file : List ℕ
  pub info : WaveInfo
  pub found : bytes_at files order.uri ≡ Some file
  pub head : head_of file ≡ Ok info
  pub whole : IsWhole form file info order before after count is_last

-- what the output got of these files, by what is answered
abbrev pub IsAnswer : Form → List File → PlayOrder → Option (List ℕ) → Option (List ℕ) → Piece → Type 0
IsAnswer form files order before after (Written count is_last) = IsWritten form files order before after count is_last
IsAnswer form files order before after (Failed Source) = Keeps before after
IsAnswer form files order before after (Failed Output) = AppendsPart before after (ordered_sound form files order)

-- the song that is open afterwards, by what is answered, whatever the folder is: none after a failure
abbrev pub IsLeft : {S : Type 0} → PlayOrder → Option (OpenSong S) → Piece → Type 0
IsLeft order song (Written count is_last) = (count ≤ 4096) × IsSomeAnd song (IsPlayedTo order count)
IsLeft order song (Failed cause) = song ≡ None

-- the frame that follows what was played
abbrev pub IsMoved : {S : Type 0} → PlayOrder → OpenSong S → Piece → Type 0
IsMoved order song (Written count is_last) = (count ≤ 4096) × (song.next_frame ≡ order.first_frame + count)
IsMoved order song (Failed cause) = Unit {0}
