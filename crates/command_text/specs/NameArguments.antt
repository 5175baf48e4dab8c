-- The arguments that have refusals of their own: names of playlists and of stickers, tags and filters.
use Rattle.std.specs.Prelude.{List, ◌&&◌, Option, Some, None, Result, Ok, Err, if◌then◌else◌}
use Rattle.std.specs.Str.{is_utf8}
use Rattle.profile.specs.declared.profile.Profile.{Profile}
use Rattle.song_files.specs.declared.tag.Tag.{Tag}
use Rattle.stored_lists.specs.Name as playlists
use Rattle.stickers.specs.Name as stickers
use Rattle.stickers.specs.Value.{is_good_value}
use Rattle.filter_expr.specs.Names.{tag_named}
use Rattle.filter_expr.specs.Tree.{Tree}
use Rattle.filter_expr.specs.Words.{Refusal, filter_of}
use Rattle.filter_expr.specs.Words.Refusal.{BadFilter, UnknownTag, TooDeep}
use Rattle.command_text.specs.declared.refusal.CommandRefusal.{CommandRefusal}
use Rattle.command_text.specs.declared.refusal.CommandRefusal.TheVariants as refusals
use Rattle.command_text.specs.Counts.{Word}

unfoldable pub playlist_name : Word → Result Word CommandRefusal
playlist_name word =
    if is_utf8 word && playlists.is_good_name word then Ok word else Err refusals.BadPlaylistName

unfoldable pub sticker_name : Word → Result Word CommandRefusal
sticker_name word =
    if is_utf8 word && stickers.is_good_name word then Ok word else Err refusals.BadStickerName

unfoldable pub sticker_value : Word → Option Word
sticker_value word = if is_utf8 word && is_good_value word then Some word else None

-- how a fault of a filter or of a sort order is told
abbrev pub refusal_of : Refusal → CommandRefusal
refusal_of (BadFilter word byte) = refusals.BadFilter
refusal_of (UnknownTag tag) = refusals.UnknownTag tag
refusal_of (TooDeep word byte) = refusals.FilterTooDeep

abbrev pub told : {A : Type 0} → Result A Refusal → Result A CommandRefusal
told (Ok value) = Ok value
told (Err refusal) = Err (refusal_of refusal)

unfoldable pub filter_argument : Profile → List Word → Result Tree CommandRefusal
filter_argument profile words = told (filter_of profile words)

abbrev pub tag_or : Word → Option Tag → Result Tag CommandRefusal
tag_or word None = Err (refusals.UnknownTag word)
tag_or word (Some tag) = Ok tag

-- a tag that the profile has, by its name
unfoldable pub tag_argument : Profile → Word → Result Tag CommandRefusal
tag_argument profile word = tag_or word (tag_named profile word)
