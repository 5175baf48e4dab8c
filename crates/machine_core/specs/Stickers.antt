-- The five forms of `sticker`. Each is of a song that has a row, but for `find`, which takes a folder too.
use Rattle.std.specs.Prelude.{ℕ, List, [], ◌++◌, Option, Some, None, Result, Ok, Err, if◌then◌else◌}
use Rattle.std.specs.List.{flat_map}
use Rattle.std.specs.Option.{ok_or}
use Rattle.command_text.specs.AnswerNames.{sticker_line}
use Rattle.command_text.specs.AnswerSongs.{file_line}
use Rattle.command_text.specs.declared.command.sticker.StickersCommand.{StickersCommand}
use Rattle.command_text.specs.declared.command.sticker.StickersCommand.TheVariants as commands
use Rattle.command_text.specs.declared.command.sticker.ValueBound.{ValueBound}
use Rattle.command_text.specs.declared.command.sticker.ValueBound.TheVariants as bounds
use Rattle.command_text.specs.declared.refusal.CommandRefusal.{CommandRefusal}
use Rattle.command_text.specs.declared.refusal.CommandRefusal.TheVariants.{BadArgument, NoSuchUri, NoSuchSticker}
use Rattle.song_db.specs.Change.{has_uri}
use Rattle.song_db.specs.Place.{place_of}
use Rattle.song_db.specs.Query.{is_folder}
use Rattle.song_db.specs.declared.place.Place.{Place}
use Rattle.state_codec.specs.Steps.{◌>>=◌}
use Rattle.state_codec.specs.declared.op.Op.TheVariants.{Sticker as OfSticker}
use Rattle.state_codec.specs.declared.op.sticker_op.StickerOp.{StickerOp}
use Rattle.state_codec.specs.declared.op.sticker_op.StickerOp.TheVariants.{Set, Delete, DeleteAll}
use Rattle.stickers.specs.Find.{passing, found_in}
use Rattle.stickers.specs.Sticker.{Sticker, value_at, stickers_of}
use Rattle.stickers.specs.declared.find.ValueTest.{ValueTest}
use Rattle.stickers.specs.declared.find.ValueTest.TheVariants as tests
use Rattle.stickers.specs.Value.{is_good_value}
use Rattle.machine_core.specs.Lent.{lent}
use Rattle.machine_core.specs.Meaning.{Meant, must, answers, says, edits}
use Rattle.machine_core.specs.State.{MachineState}

-- all stickers of the song, or the one of a name
abbrev pub deletion : List ℕ → Option (List ℕ) → StickerOp
deletion uri None = DeleteAll uri
deletion uri (Some name) = Delete uri name

-- the names and values of a song's stickers
abbrev pub song_stickers : List Sticker → List ℕ
song_stickers stickers = flat_map (λ s. sticker_line s.name s.value) stickers

abbrev pub test_of : ValueBound → ValueTest
test_of bounds.Any = tests.Any
test_of (bounds.Equal bound) = tests.Equal (lent bound)
test_of (bounds.Less bound) = tests.Less (lent bound)
test_of (bounds.Greater bound) = tests.Greater (lent bound)

-- a song that was found, and the value that its sticker of this name has
abbrev pub found_lines : List ℕ → List ℕ × List ℕ → List ℕ
found_lines name found = file_line found.0 ++ sticker_line name found.1

-- the song itself, where its sticker's value passes
abbrev pub song_found : List ℕ → List ℕ → Option (List ℕ) → List ℕ
song_found uri name None = []
song_found uri name (Some value) = found_lines name (uri, value)

-- the songs below a folder
abbrev pub found_below : Place → List ℕ → ValueTest → MachineState → Result (List ℕ) CommandRefusal
found_below place name test m =
    if is_folder m.saved.songs place then Ok (flat_map (found_lines name) (found_in m.saved.stickers place name test)) else Err NoSuchUri

-- the song of a path goes before the folder of that path
abbrev pub found_at : List ℕ → List ℕ → ValueTest → MachineState → Result (List ℕ) CommandRefusal
found_at uri name test m =
    if has_uri m.saved.songs uri then Ok (song_found uri name (passing test (value_at m.saved.stickers uri name)))
    else found_below (place_of (lent uri)) name test m

unfoldable pub stickers_meaning : StickersCommand → MachineState → Meant
stickers_meaning (commands.Delete uri name) m = do
  song ← must (has_uri m.saved.songs uri) NoSuchUri
  edits (OfSticker (deletion uri name)) [] m
stickers_meaning (commands.Find uri name bound) m = answers (found_at uri name (test_of bound) m) m
stickers_meaning (commands.Get uri name) m = do
  song ← must (has_uri m.saved.songs uri) NoSuchUri
  value ← ok_or (value_at m.saved.stickers uri name) NoSuchSticker
  says (sticker_line name value) m
stickers_meaning (commands.List uri) m = do
  song ← must (has_uri m.saved.songs uri) NoSuchUri
  says (song_stickers (stickers_of m.saved.stickers uri)) m
stickers_meaning (commands.Set uri name value) m = do
  form ← must (is_good_value value) (BadArgument 5)
  edits (OfSticker (Set uri name value)) [] m
