-- The five forms of `sticker`; its arguments are counted from the form's word.
use Rattle.std.specs.Prelude.{nat_le, ◌&&◌, List, [], ◌∷◌, length, Some, None, Result, Ok, Err, codes, if◌then◌else◌}
use Rattle.std.specs.Str.{bytes_eq}
use Rattle.command_text.specs.declared.command.sticker.StickersCommand.{StickersCommand}
use Rattle.command_text.specs.declared.command.sticker.StickersCommand.TheVariants as commands
use Rattle.command_text.specs.declared.command.sticker.ValueBound.{ValueBound}
use Rattle.command_text.specs.declared.command.sticker.ValueBound.TheVariants.{Any, Equal, Less, Greater}
use Rattle.command_text.specs.declared.refusal.CommandRefusal.{CommandRefusal}
use Rattle.command_text.specs.declared.refusal.CommandRefusal.TheVariants.{WrongCount, BadArgument}
use Rattle.command_text.specs.declared.topic.StickersName.{StickersName}
use Rattle.command_text.specs.declared.topic.StickersName.TheVariants as names
use Rattle.command_text.specs.Arguments.{text_of}
use Rattle.command_text.specs.Counts.{◌>>=◌, Word, argument}
use Rattle.command_text.specs.NameArguments.{sticker_name, sticker_value}

-- the type, of which there is one
unfoldable pub song : Word → Result (Unit {0}) CommandRefusal
song word = if bytes_eq word (codes "song") then Ok tt else Err (BadArgument 2)

-- `song URI`
unfoldable pub song_uri : Word → Word → Result Word CommandRefusal
song_uri type uri = song type >>= λ one. argument 3 (text_of uri)

-- `song URI NAME`
unfoldable pub song_sticker : Word → Word → Word → Result (Word × Word) CommandRefusal
song_sticker type uri name = do
  song ← song_uri type uri
  sticker ← sticker_name name
  Ok (song, sticker)

unfoldable pub get_of : List Word → Result StickersCommand CommandRefusal
get_of (type ∷ uri ∷ name ∷ []) = song_sticker type uri name >>= λ x. Ok (commands.Get x.0 x.1)
get_of words = Err WrongCount

unfoldable pub set_of : List Word → Result StickersCommand CommandRefusal
set_of (type ∷ uri ∷ name ∷ value ∷ []) = do
  x ← song_sticker type uri name
  text ← argument 5 (sticker_value value)
  Ok (commands.Set x.0 x.1 text)
set_of words = Err WrongCount

unfoldable pub delete_of : List Word → Result StickersCommand CommandRefusal
delete_of (type ∷ uri ∷ []) = song_uri type uri >>= λ song. Ok (commands.Delete song None)
delete_of (type ∷ uri ∷ name ∷ []) = song_sticker type uri name >>= λ x. Ok (commands.Delete x.0 (Some x.1))
delete_of words = Err WrongCount

unfoldable pub list_of : List Word → Result StickersCommand CommandRefusal
list_of (type ∷ uri ∷ []) = song_uri type uri >>= λ song. Ok (commands.List song)
list_of words = Err WrongCount

-- `=`, `<` or `>`, and the value that it compares with
unfoldable pub bound_of : Word → Word → Result ValueBound CommandRefusal
bound_of operator value =
    if bytes_eq operator (codes "=") then (argument 6 (text_of value) >>= λ text. Ok (Equal text))
    else (if bytes_eq operator (codes "<") then (argument 6 (text_of value) >>= λ text. Ok (Less text))
    else (if bytes_eq operator (codes ">") then (argument 6 (text_of value) >>= λ text. Ok (Greater text)) else Err (BadArgument 5)))

unfoldable pub find_of : List Word → Result StickersCommand CommandRefusal
find_of (type ∷ uri ∷ name ∷ []) = song_sticker type uri name >>= λ x. Ok (commands.Find x.0 x.1 Any)
find_of (type ∷ uri ∷ name ∷ operator ∷ value ∷ []) = do
  x ← song_sticker type uri name
  bound ← bound_of operator value
  Ok (commands.Find x.0 x.1 bound)
find_of words = Err WrongCount

unfoldable pub form_of : Word → List Word → Result StickersCommand CommandRefusal
form_of form words =
    if bytes_eq form (codes "get") then get_of words
    else (if bytes_eq form (codes "set") then set_of words
    else (if bytes_eq form (codes "delete") then delete_of words
    else (if bytes_eq form (codes "list") then list_of words
    else (if bytes_eq form (codes "find") then find_of words else Err (BadArgument 1)))))

-- with two to five words behind the form's
abbrev pub sticker_of : List Word → Result StickersCommand CommandRefusal
sticker_of [] = Err WrongCount
sticker_of (form ∷ words) = if nat_le 2 (length words) && nat_le (length words) 5 then form_of form words else Err WrongCount

abbrev pub stickers_of : StickersName → List Word → Result StickersCommand CommandRefusal
stickers_of names.Sticker words = sticker_of words
