-- What the forms of `sticker` mean, case by case.
use Rattle.std.proofs.Common.{◌≡◌, ℕ, true, false, List, [], Option, Some, None, Err, Bor}
use Rattle.std.specs.List.{flat_map}
use Rattle.command_text.specs.AnswerNames.{sticker_line}
use Rattle.command_text.specs.declared.command.sticker.StickersCommand.TheVariants as commands
use Rattle.command_text.specs.declared.refusal.CommandRefusal.TheVariants.{BadArgument, BadStickerName, NoSuchSticker, NoSuchUri}
use Rattle.command_text.specs.declared.command.sticker.ValueBound.{ValueBound}
use Rattle.song_db.specs.Change.{has_uri}
use Rattle.song_db.specs.Place.{place_of}
use Rattle.song_db.specs.Query.{is_folder}
use Rattle.song_db.specs.declared.place.Place.{Place}
use Rattle.state_codec.specs.declared.op.Op.TheVariants.{Sticker as OfSticker}
use Rattle.state_codec.specs.declared.op.sticker_op.StickerOp.TheVariants.{Set}
use Rattle.stickers.specs.Find.{passing, found_in}
use Rattle.stickers.specs.Name.{is_good_name}
use Rattle.stickers.specs.declared.find.ValueTest.{ValueTest}
use Rattle.stickers.specs.Sticker.{value_at, stickers_of}
use Rattle.stickers.specs.Value.{is_good_value}
use Rattle.machine_core.specs.Meaning.{answers, says, edits}
use Rattle.machine_core.specs.State.{MachineState}
use Rattle.machine_core.specs.Stickers.{deletion, song_stickers, test_of, found_lines, song_found, found_below, stickers_meaning}
use Rattle.machine_core.proofs.Elsewhere.{Agree, same_passing, same_below, same_found_below}

pub no_song_got : (m : MachineState) (uri name : List ℕ) → has_uri m.saved.songs uri ≡ false
    → stickers_meaning (commands.Get uri name) m ≡ Err NoSuchUri
unfolding stickers_meaning
no_song_got m uri name none = rw none

pub none_got : (m : MachineState) (uri name : List ℕ) → has_uri m.saved.songs uri ≡ true → value_at m.saved.stickers uri name ≡ None
    → stickers_meaning (commands.Get uri name) m ≡ Err NoSuchSticker
unfolding stickers_meaning
none_got m uri name song none = rw (song, none)

pub got : (m : MachineState) (uri name value : List ℕ) → has_uri m.saved.songs uri ≡ true → value_at m.saved.stickers uri name ≡ Some value
    → stickers_meaning (commands.Get uri name) m ≡ says (sticker_line name value) m
unfolding stickers_meaning
got m uri name value song is = rw (song, is)

pub no_song_listed : (m : MachineState) (uri : List ℕ) → has_uri m.saved.songs uri ≡ false
    → stickers_meaning (commands.List uri) m ≡ Err NoSuchUri
unfolding stickers_meaning
no_song_listed m uri none = rw none

pub listed : (m : MachineState) (uri : List ℕ) → has_uri m.saved.songs uri ≡ true
    → stickers_meaning (commands.List uri) m ≡ says (song_stickers (stickers_of m.saved.stickers uri)) m
unfolding stickers_meaning
listed m uri song = rw song

pub no_song_deleted : (m : MachineState) (uri : List ℕ) (name : Option (List ℕ)) → has_uri m.saved.songs uri ≡ false
    → stickers_meaning (commands.Delete uri name) m ≡ Err NoSuchUri
unfolding stickers_meaning
no_song_deleted m uri name none = rw none

pub deleted : (m : MachineState) (uri : List ℕ) (name : Option (List ℕ)) → has_uri m.saved.songs uri ≡ true
    → stickers_meaning (commands.Delete uri name) m ≡ edits (OfSticker (deletion uri name)) [] m
unfolding stickers_meaning
deleted m uri name song = rw song

pub bad_name_deleted : (m : MachineState) (uri name : List ℕ) → has_uri m.saved.songs uri ≡ true → is_good_name name ≡ false
    → stickers_meaning (commands.Delete uri (Some name)) m ≡ Err BadStickerName
unfolding stickers_meaning edits
bad_name_deleted m uri name song bad = rw (song, bad)

pub bad_value_set : (m : MachineState) (uri name value : List ℕ) → is_good_value value ≡ false
    → stickers_meaning (commands.Set uri name value) m ≡ Err (BadArgument 5)
unfolding stickers_meaning
bad_value_set m uri name value bad = rw bad

pub set_edits : (m : MachineState) (uri name value : List ℕ) → is_good_value value ≡ true
    → stickers_meaning (commands.Set uri name value) m ≡ edits (OfSticker (Set uri name value)) [] m
unfolding stickers_meaning
set_edits m uri name value good = rw good

pub no_song_set : (m : MachineState) (uri name value : List ℕ) → is_good_value value ≡ true → has_uri m.saved.songs uri ≡ false
    → stickers_meaning (commands.Set uri name value) m ≡ Err NoSuchUri
unfolding stickers_meaning edits
no_song_set m uri name value good none = rw (good, none)

pub bad_name_set : (m : MachineState) (uri name value : List ℕ) → is_good_value value ≡ true → has_uri m.saved.songs uri ≡ true
    → is_good_name name ≡ false → stickers_meaning (commands.Set uri name value) m ≡ Err BadStickerName
unfolding stickers_meaning edits
bad_name_set m uri name value good song bad = rw (good, song, bad)

pub nothing_below : (m : MachineState) (place : Place) (name : List ℕ) (test : ValueTest) → is_folder m.saved.songs place ≡ true
    → found_in m.saved.stickers place name test ≡ [] → answers (found_below place name test m) m ≡ says [] m
nothing_below m place name test folder none = rw (folder, none)

pub below : (m : MachineState) (place : Place) (name : List ℕ) (test : ValueTest) → is_folder m.saved.songs place ≡ true
    → answers (found_below place name test m) m ≡ says (flat_map (found_lines name) (found_in m.saved.stickers place name test)) m
below m place name test folder = rw folder

pub found_here : (m : MachineState) (uri name : List ℕ) (bound : ValueBound) (test : ValueTest) → has_uri m.saved.songs uri ≡ true
    → Agree test (test_of bound)
    → stickers_meaning (commands.Find uri name bound) m ≡ says (song_found uri name (passing test (value_at m.saved.stickers uri name))) m
unfolding stickers_meaning
found_here m uri name bound test song same = rw (song, ← same_passing test (test_of bound) (value_at m.saved.stickers uri name) same)

pub found_in_folder : (m : MachineState) (uri : Bor (List ℕ)) (name : List ℕ) (bound : ValueBound) (test : ValueTest)
    → has_uri m.saved.songs uri.now ≡ false → Agree test (test_of bound)
    → stickers_meaning (commands.Find uri.now name bound) m ≡ answers (found_below (place_of uri) name test m) m
unfolding stickers_meaning
found_in_folder m uri name bound test none same =
    rw (none, same_below uri name (test_of bound) m, ← same_found_below (place_of uri) name test (test_of bound) m same)
