-- What was played of an open song is what was ordered of the files.
use Rattle.std.proofs.Common.{◌≡◌, ℕ, List, length, take, sym, ◌∙◌, ap, subst, Ok}
use Rattle.std.specs.Prelude.{Option, None, Some, IfSome}
use Rattle.std.proofs.lemmas.List.{take_all}
use Rattle.std.proofs.Common.{arith}
use Rattle.std.specs.Io.KnownBytes.{Appends}
use Rattle.song_files.specs.Folder.{File, bytes_at}
use Rattle.wave_pcm.specs.Pcm.{HasFrames}
use Rattle.wave_pcm.specs.declared.info.WaveInfo.{WaveInfo}
use Rattle.player_core.specs.declared.order.PlayOrder.{PlayOrder}
use Rattle.player_core.specs.declared.failure.BrokenCause.TheVariants.{Source, Output}
use Rattle.song_output.specs.declared.piece.Piece.{Piece}
use Rattle.song_output.specs.declared.piece.Piece.TheVariants.{Written, Failed}
use Rattle.song_output.specs.declared.open_song.OpenSong.{OpenSong}
use Rattle.song_output.specs.declared.output.Form.{Form}
use Rattle.song_output.specs.OpenSong.{IsOpenSong, IsPlayedTo}
use Rattle.song_output.specs.Piece.{AppendsFront, AppendsPart, IsPlayed, IsAnswer}
use Rattle.song_output.specs.Sound.{head_of, sound_by, sound_from, sound_in, ordered_sound}
use Rattle.song_output.proofs.Appending.{kept_none}

-- what is ordered of a file with this reading
sound_is : (form : Form) (files : List File) (order : PlayOrder) (file : List ℕ) (info : WaveInfo) → bytes_at files order.uri ≡ Some file
    → head_of file ≡ Ok info → ordered_sound form files order ≡ sound_from form file info order.first_frame order.volume
sound_is form files order file info found head =
    ap (λ bytes. sound_in form bytes order) found ∙ ap (λ reading. sound_by form reading file order) head

-- the file at the order's URI
found_at : {S : Type 0} (bytes : S → List ℕ) (honest : S → Type 0) (files : List File) (order : PlayOrder) (song : OpenSong S)
    → IsOpenSong bytes honest files song → IsPlayedTo order 0 song → bytes_at files order.uri ≡ Some (bytes song.source)
found_at bytes honest files order song is_open ordered = ap (bytes_at files) (sym ordered.uri) ∙ is_open.same

pub answer_of : {S : Type 0} (form : Form) (bytes : S → List ℕ) (honest : S → Type 0) (files : List File) (order : PlayOrder) (song : OpenSong S)
    (before after : Option (List ℕ)) (piece : Piece) → IsOpenSong bytes honest files song → IsPlayedTo order 0 song
    → IsPlayed form (bytes song.source) song.info order before after piece → IsAnswer form files order before after piece
answer_of form bytes honest files order song before after (Written count is_last) is_open ordered played = record {
  file = bytes song.source;
  info = song.info;
  found = found_at bytes honest files order song is_open ordered;
  head = is_open.head;
  whole = played;
}
answer_of form bytes honest files order song before after (Failed Source) is_open ordered played = played
answer_of form bytes honest files order song before after (Failed Output) is_open ordered played =
    subst (AppendsPart before after) (sym (sound_is form files order (bytes song.source) song.info (found_at bytes honest files order song
    is_open ordered) is_open.head)) played

-- a front of what was ordered, whatever is answered
pub front_of : {S : Type 0} (form : Form) (bytes : S → List ℕ) (honest : S → Type 0) (files : List File) (order : PlayOrder) (song : OpenSong S)
    (before after : Option (List ℕ)) (piece : Piece) → IsOpenSong bytes honest files song → IsPlayedTo order 0 song
    → IsPlayed form (bytes song.source) song.info order before after piece → AppendsFront before after (ordered_sound form files order)
front_of form bytes honest files order song before after (Written count is_last) is_open ordered played =
    let sound = sound_from form (bytes song.source) song.info order.first_frame order.volume in
    let all : take (length sound) sound ≡ sound = take_all (length sound) sound (omega arith) in
    let same : ordered_sound form files order ≡ sound = sound_is form files order (bytes song.source) song.info (found_at bytes honest files
    order song is_open ordered) is_open.head in
    subst (AppendsFront before after) (sym same) (length sound, subst (Appends before after) (sym all) played.sound)
front_of form bytes honest files order song before after (Failed Source) is_open ordered played = (0, kept_none before after played)
front_of form bytes honest files order song before after (Failed Output) is_open ordered played =
    subst (AppendsFront before after) (sym (sound_is form files order (bytes song.source) song.info (found_at bytes honest files order song
    is_open ordered) is_open.head)) (played.0, played.2)

-- the same of a song that was found, where what is played of it is known of an honest source alone
pub answer_found : {S : Type 0} (form : Form) (bytes : S → List ℕ) (honest : S → Type 0) (files : List File) (order : PlayOrder)
    (found : Option (OpenSong S)) (song : OpenSong S) (before after : Option (List ℕ)) (piece : Piece) → found ≡ Some song
    → IfSome found (IsOpenSong bytes honest files) → IfSome found (IsPlayedTo order 0)
    → (honest song.source → HasFrames song.info (bytes song.source) → IsPlayed form (bytes song.source) song.info order before after piece)
    → IsAnswer form files order before after piece
answer_found form bytes honest files order None song before after piece same is_open ordered played = absurd (cc)
answer_found form bytes honest files order (Some s) song before after piece same is_open ordered played =
    let e : s ≡ song = cc in
    let now : IsOpenSong bytes honest files song = subst (IsOpenSong bytes honest files) e is_open in
    answer_of form bytes honest files order song before after piece now (subst (IsPlayedTo order 0) e ordered) (played now.is_honest now.frames)

pub front_found : {S : Type 0} (form : Form) (bytes : S → List ℕ) (honest : S → Type 0) (files : List File) (order : PlayOrder)
    (found : Option (OpenSong S)) (song : OpenSong S) (before after : Option (List ℕ)) (piece : Piece) → found ≡ Some song
    → IfSome found (IsOpenSong bytes honest files) → IfSome found (IsPlayedTo order 0)
    → (honest song.source → HasFrames song.info (bytes song.source) → IsPlayed form (bytes song.source) song.info order before after piece)
    → AppendsFront before after (ordered_sound form files order)
front_found form bytes honest files order None song before after piece same is_open ordered played = absurd (cc)
front_found form bytes honest files order (Some s) song before after piece same is_open ordered played =
    let e : s ≡ song = cc in
    let now : IsOpenSong bytes honest files song = subst (IsOpenSong bytes honest files) e is_open in
    front_of form bytes honest files order song before after piece now (subst (IsPlayedTo order 0) e ordered) (played now.is_honest now.frames)
