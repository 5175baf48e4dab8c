-- What the output got of an order.
use Rattle.std.specs.Prelude.{ℕ, ◌-◌, ◌*◌, ◌<◌, ◌≤◌, List, Option, IfSome, IsSomeAnd}
use Rattle.std.specs.Io.KnownBytes.{Appends}
use Rattle.song_files.specs.Folder.{File}
use Rattle.player_core.specs.declared.order.PlayOrder.{PlayOrder}
use Rattle.song_output.specs.declared.open_song.OpenSong.{OpenSong}
use Rattle.song_output.specs.declared.output.Form.{Form}
use Rattle.song_output.specs.Sound.{ordered_sound}

-- where a song stays open, all that was ordered of the files was written, in the form of the output
abbrev pub IsWholeIfOpen : {S : Type 0} → Form → List File → PlayOrder → Option S → Option (List ℕ) → Option (List ℕ) → Type 0
IsWholeIfOpen form files order song before after = IfSome song (λ _. Appends before after (ordered_sound form files order))

-- A song is open, and an order came to the end of its file with fewer frames than a tenth of a second has. Pieces before the last one don't
-- count, however short their 4,096 frames are.
abbrev pub IsShort : {S : Type 0} → Option (OpenSong S) → PlayOrder → Type 0
IsShort song order = IsSomeAnd song (λ s. (s.info.frames ≤ s.next_frame) × ((s.next_frame - order.first_frame) * 10 < s.info.rate))
