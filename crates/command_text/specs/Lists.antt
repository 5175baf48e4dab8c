-- The commands of the stored playlists.
use Rattle.std.specs.Prelude.{List, Option, Some, None, Result, Ok, codes, if◌then◌else◌}
use Rattle.std.specs.Option.{option_map}
use Rattle.std.specs.Str.{bytes_eq}
use Rattle.profile.specs.declared.profile.Profile.{Profile}
use Rattle.profile.specs.declared.profile.Profile.TheVariants.{Named, Wide}
use Rattle.command_text.specs.declared.command.lists.ListsCommand.{ListsCommand}
use Rattle.command_text.specs.declared.command.lists.ListsCommand.TheVariants as commands
use Rattle.command_text.specs.declared.command.lists.SaveMode.{SaveMode}
use Rattle.command_text.specs.declared.command.lists.SaveMode.TheVariants.{Create, Append, Replace}
use Rattle.command_text.specs.declared.range.PositionRange.{PositionRange}
use Rattle.command_text.specs.declared.range.PositionRange.TheVariants.{One}
use Rattle.command_text.specs.declared.refusal.CommandRefusal.{CommandRefusal}
use Rattle.command_text.specs.declared.topic.ListsName.{ListsName}
use Rattle.command_text.specs.declared.topic.ListsName.TheVariants as names
use Rattle.command_text.specs.Arguments.{number_of, range_of, target_of, text_of}
use Rattle.command_text.specs.Counts.{◌>>=◌, Word, no_argument, one_argument, two_arguments, three_arguments, one_or_two, one_to_three}
use Rattle.command_text.specs.Counts.{argument, optional, two_or_three}
use Rattle.command_text.specs.NameArguments.{playlist_name}

-- the one argument is a playlist's name
abbrev pub one_name : List Word → Result Word CommandRefusal
one_name words = one_argument words >>= λ word. playlist_name word

unfoldable pub load_of : List Word → Result ListsCommand CommandRefusal
load_of words = do
  given ← one_to_three words
  name ← playlist_name given.0
  range ← optional 2 range_of given.1.0
  to ← optional 3 target_of given.1.1
  Ok (commands.Load name range to)

unfoldable pub rename_of : List Word → Result ListsCommand CommandRefusal
rename_of words = do
  given ← two_arguments words
  from ← playlist_name given.0
  to ← playlist_name given.1
  Ok (commands.Rename from to)

-- in the wide profile a place may stand behind the URI
abbrev pub added_arguments : Profile → List Word → Result (Word × (Word × Option Word)) CommandRefusal
added_arguments Named words = two_arguments words >>= λ given. Ok (given.0, (given.1, None))
added_arguments Wide words = two_or_three words

unfoldable pub list_add_of : Profile → List Word → Result ListsCommand CommandRefusal
list_add_of profile words = do
  given ← added_arguments profile words
  name ← playlist_name given.0
  uri ← argument 2 (text_of given.1.0)
  to ← optional 3 number_of given.1.1
  Ok (commands.Add name uri to)

unfoldable pub list_delete_of : List Word → Result ListsCommand CommandRefusal
list_delete_of words = do
  given ← two_arguments words
  name ← playlist_name given.0
  range ← argument 2 (range_of given.1)
  Ok (commands.Delete name range)

-- in the wide profile a RANGE may be moved
abbrev pub moved_of : Profile → Word → Option PositionRange
moved_of Named word = option_map One (number_of word)
moved_of Wide word = range_of word

unfoldable pub list_move_of : Profile → List Word → Result ListsCommand CommandRefusal
list_move_of profile words = do
  given ← three_arguments words
  name ← playlist_name given.0
  from ← argument 2 (moved_of profile given.1.0)
  to ← argument 3 (number_of given.1.1)
  Ok (commands.Move name from to)

-- `create`, `append` or `replace`
unfoldable pub save_mode_of : Word → Option SaveMode
save_mode_of word =
    if bytes_eq word (codes "create") then Some Create
    else (if bytes_eq word (codes "append") then Some Append
    else (if bytes_eq word (codes "replace") then Some Replace else None))

-- the second argument; none is `create`
abbrev pub save_mode : Option Word → Result SaveMode CommandRefusal
save_mode None = Ok Create
save_mode (Some word) = argument 2 (save_mode_of word)

unfoldable pub save_of : List Word → Result ListsCommand CommandRefusal
save_of words = do
  given ← one_or_two words
  name ← playlist_name given.0
  mode ← save_mode given.1
  Ok (commands.Save name mode)

unfoldable pub lists_of : Profile → ListsName → List Word → Result ListsCommand CommandRefusal
lists_of profile names.ListPlaylist words = one_name words >>= λ name. Ok (commands.Songs name)
lists_of profile names.ListPlaylistInfo words = one_name words >>= λ name. Ok (commands.SongsInfo name)
lists_of profile names.ListPlaylists words = no_argument commands.Names words
lists_of profile names.Load words = load_of words
lists_of profile names.PlaylistAdd words = list_add_of profile words
lists_of profile names.PlaylistClear words = one_name words >>= λ name. Ok (commands.Clear name)
lists_of profile names.PlaylistDelete words = list_delete_of words
lists_of profile names.PlaylistMove words = list_move_of profile words
lists_of profile names.Remove words = one_name words >>= λ name. Ok (commands.Remove name)
lists_of profile names.Rename words = rename_of words
lists_of profile names.Save words = save_of words
