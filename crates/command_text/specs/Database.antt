-- The commands of the database and its scans.
use Rattle.std.specs.Prelude.{List, Bool, true, false, ◌||◌, [], ◌∷◌, Option, Some, None, Result, Ok, codes, if◌then◌else◌}
use Rattle.std.specs.Str.{bytes_eq}
use Rattle.profile.specs.declared.profile.Profile.{Profile}
use Rattle.profile.specs.declared.profile.Profile.TheVariants.{Named, Wide}
use Rattle.song_db.specs.Uri.{is_uri}
use Rattle.command_text.specs.declared.command.database.DatabaseCommand.{DatabaseCommand}
use Rattle.command_text.specs.declared.command.database.DatabaseCommand.TheVariants as commands
use Rattle.command_text.specs.declared.refusal.CommandRefusal.{CommandRefusal}
use Rattle.command_text.specs.declared.topic.DatabaseName.{DatabaseName}
use Rattle.command_text.specs.declared.topic.DatabaseName.TheVariants as names
use Rattle.command_text.specs.Arguments.{text_of}
use Rattle.command_text.specs.Counts.{◌>>=◌, Word, no_argument, optional_argument, optional}
use Rattle.command_text.specs.Masks.{mask_change}

-- the place that a scan reads: nothing, the empty text or `/` for the whole, or what has the form of a URI
unfoldable pub scanned_place : Word → Option (Option Word)
scanned_place word =
    if bytes_eq word [] || bytes_eq word (codes "/") then Some None else (if is_uri word then Some (Some word) else None)

abbrev pub place_or_root : Option (Option Word) → Option Word
place_or_root None = None
place_or_root (Some place) = place

-- a path, of which any text is one
abbrev pub path_argument : List Word → Result (Option Word) CommandRefusal
path_argument words = optional_argument words >>= λ word. optional 1 text_of word

-- the place that a scan reads, if one is given
unfoldable pub scan_of : List Word → Result (Option Word) CommandRefusal
scan_of words = do
  word ← optional_argument words
  place ← optional 1 scanned_place word
  Ok (place_or_root place)

-- the tags are listed, or in the wide profile those change that the client sees
unfoldable pub tag_types_of : Profile → List Word → Result DatabaseCommand CommandRefusal
tag_types_of Named words = no_argument commands.TagTypes words
tag_types_of Wide [] = Ok commands.TagTypes
tag_types_of Wide (what ∷ words) = mask_change what words >>= λ change. Ok (commands.ChangeMask change)

-- the commands that keep the place that they name
abbrev pub keeps_place : DatabaseName → Bool
keeps_place names.Commands = false
keeps_place names.ListAll = false
keeps_place names.ListAllInfo = false
keeps_place names.ListFiles = false
keeps_place names.ListInfo = false
keeps_place names.NotCommands = false
keeps_place names.Rescan = true
keeps_place names.Stats = false
keeps_place names.TagTypes = false
keeps_place names.Update = true

unfoldable pub database_of : Profile → DatabaseName → List Word → Result DatabaseCommand CommandRefusal
database_of profile names.Commands words = no_argument commands.Commands words
database_of profile names.ListAll words = path_argument words >>= λ path. Ok (commands.ListAll path)
database_of profile names.ListAllInfo words = path_argument words >>= λ path. Ok (commands.ListAllInfo path)
database_of profile names.ListFiles words = path_argument words >>= λ path. Ok (commands.ListFiles path)
database_of profile names.ListInfo words = path_argument words >>= λ path. Ok (commands.ListInfo path)
database_of profile names.NotCommands words = no_argument commands.NotCommands words
database_of profile names.Rescan words = scan_of words >>= λ place. Ok (commands.Rescan place)
database_of profile names.Stats words = no_argument commands.Stats words
database_of profile names.TagTypes words = tag_types_of profile words
database_of profile names.Update words = scan_of words >>= λ place. Ok (commands.Update place)
