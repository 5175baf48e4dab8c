-- Where a song stays open, all that was ordered was written.
use Rattle.std.proofs.Common.{◌≡◌, ℕ, List, sym, ◌∙◌, ap, subst}
use Rattle.std.specs.Prelude.{Bool, Option, None, Some}
use Rattle.std.specs.Io.KnownBytes.{Appends}
use Rattle.song_files.specs.Folder.{File}
use Rattle.player_core.specs.declared.order.PlayOrder.{PlayOrder}
use Rattle.song_output.specs.declared.piece.Piece.{Piece}
use Rattle.song_output.specs.declared.piece.Piece.TheVariants.{Written, Failed}
use Rattle.song_output.specs.declared.open_song.OpenSong.{OpenSong}
use Rattle.song_output.specs.declared.output.Form.{Form}
use Rattle.song_output.specs.Piece.{IsAnswer, IsWritten, IsLeft}
use Rattle.song_output.specs.Sound.{sound_by, sound_from, sound_in, ordered_sound}
use Rattle.stage_workers.specs.Played.{IsWholeIfOpen}

-- what was written of a file is what was ordered of the files
sound_is : (form : Form) (files : List File) (order : PlayOrder) (before after : Option (List ℕ)) (count : ℕ) (is_last : Bool)
    → (w : IsWritten form files order before after count is_last)
    → ordered_sound form files order ≡ sound_from form w.file w.info order.first_frame order.volume
sound_is form files order before after count is_last w =
    ap (λ bytes. sound_in form bytes order) w.found ∙ ap (λ reading. sound_by form reading w.file order) w.head

pub whole_if_open : {S : Type 0} (form : Form) (files : List File) (order : PlayOrder) (before after : Option (List ℕ)) (piece : Piece)
    (song : Option (OpenSong S)) → IsAnswer form files order before after piece → IsLeft order song piece
    → IsWholeIfOpen form files order song before after
whole_if_open form files order before after (Written count is_last) None answer left = tt
whole_if_open form files order before after (Written count is_last) (Some song) answer left =
    subst (Appends before after) (sym (sound_is form files order before after count is_last answer)) answer.whole.sound
whole_if_open form files order before after (Failed cause) song answer left =
    subst (λ s. IsWholeIfOpen form files order s before after) (sym left) tt
