-- The commands of pictures: what each is answered by what was read for the client that asks.
use Rattle.std.specs.Prelude.{◌≡◌, ℕ, ◌==◌, ◌&&◌, not, Bool, List, [], ◌∷◌, ◌++◌, take, filter}
use Rattle.std.specs.Prelude.{Option, Some, None, option_map, Result, Ok, Err, if◌then◌else◌}
use Rattle.std.specs.List.{find}
use Rattle.std.specs.Option.{ok_or}
use Rattle.std.specs.Str.{bytes_eq}
use Rattle.covers.specs.Asked.{ToldChunk, same_kind}
use Rattle.covers.specs.declared.asked.PictureAnswer.{PictureAnswer}
use Rattle.covers.specs.declared.asked.PictureAnswer.TheVariants as answers
use Rattle.covers.specs.declared.kind.PictureKind.{PictureKind}
use Rattle.covers.specs.declared.kind.PictureKind.TheVariants.{Album, Inside}
use Rattle.command_text.specs.AnswerPictures.{picture_lines}
use Rattle.command_text.specs.Counts.{◌>>=◌}
use Rattle.command_text.specs.declared.command.pictures.PicturesCommand.{PicturesCommand}
use Rattle.command_text.specs.declared.command.pictures.PicturesCommand.TheVariants as commands
use Rattle.command_text.specs.declared.refusal.CommandRefusal.{CommandRefusal}
use Rattle.command_text.specs.declared.refusal.CommandRefusal.TheVariants.{NoSuchSong, Setup}
use Rattle.command_text.specs.declared.refusal.SetupRefusal.TheVariants as refusals
use Rattle.idle_masks.specs.declared.watch.Watched.{Watched}
use Rattle.machine_core.specs.Meaning.{must}
use Rattle.machine_core.specs.Work.{AddsNothing, HasRoom, TellsText, command_room}
use Rattle.machine_core.specs.declared.work.Failure.{Failure}
use Rattle.machine_core.specs.declared.work.Failure.TheVariants as failures
use Rattle.machine_core.specs.declared.work.Work.{Work}
use Rattle.song_db.specs.Change.{has_uri}
use Rattle.song_db.specs.Row.{Row}
use Rattle.daemon_core.specs.declared.picture.ClientPicture.{ClientPicture}
use Rattle.daemon_core.specs.declared.picture.PictureTold.{PictureTold}

-- ---- what was read for the clients

-- what was read last for a client
abbrev pub told_for : List ClientPicture → ℕ → Option PictureTold
told_for pictures c = option_map (λ p. p.told) (find (λ p. p.client == c) pictures)

-- the client is told of it no more
abbrev pub unpictured : List ClientPicture → ℕ → List ClientPicture
unpictured pictures c = filter (λ p. not (p.client == c)) pictures

-- where it was connected
abbrev pub pictures_without : Option Watched → List ClientPicture → ℕ → List ClientPicture
pictures_without None pictures c = pictures
pictures_without (Some w) pictures c = unpictured pictures c

-- this was read for a client
abbrev pub pictured : List ClientPicture → ℕ → PictureTold → List ClientPicture
pictured pictures c told = unpictured pictures c ++ record { client = c; told = told } ∷ []

-- where it is connected
abbrev pub pictured_where : Option Watched → List ClientPicture → ℕ → PictureTold → List ClientPicture
pictured_where None pictures c told = pictures
pictured_where (Some w) pictures c told = pictured pictures c told

-- ---- what the commands answer

-- it was asked for just this
abbrev pub is_told_of : PictureKind → List ℕ → ℕ → PictureTold → Bool
is_told_of kind uri offset told = same_kind told.ask.kind kind && (bytes_eq told.ask.uri uri && told.ask.offset == offset)

-- the answer that was read for this question
abbrev pub answer_for : PictureKind → List ℕ → ℕ → Option PictureTold → Option PictureAnswer
answer_for kind uri offset None = None
answer_for kind uri offset (Some told) = if is_told_of kind uri offset told then Some told.answer else None

-- Before a request one picture is read for it, so of a list that asks for two one is refused.
abbrev pub told_of : PictureKind → List ℕ → ℕ → Option PictureTold → Result PictureAnswer CommandRefusal
told_of kind uri offset told = ok_or (answer_for kind uri offset told) (Setup refusals.OnePicture)

-- no more bytes than the client may be told
abbrev pub chunk_lines : ℕ → Option (List ℕ) → ToldChunk → List ℕ
chunk_lines limit mime chunk = picture_lines chunk.size mime (take limit chunk.bytes)

-- an album's picture has no type
abbrev pub album_lines : ℕ → PictureAnswer → Result (List ℕ) CommandRefusal
album_lines limit answers.NoPicture = Err (Setup refusals.NoPicture)
album_lines limit answers.Unreadable = Err (Setup refusals.PictureUnread)
album_lines limit answers.PastEnd = Err (Setup refusals.OffsetTooLarge)
album_lines limit (answers.Chunk chunk) = Ok (chunk_lines limit None chunk)

-- of a song without a picture nothing is told
abbrev pub inside_lines : ℕ → PictureAnswer → Result (List ℕ) CommandRefusal
inside_lines limit answers.NoPicture = Ok []
inside_lines limit answers.Unreadable = Err (Setup refusals.PictureUnread)
inside_lines limit answers.PastEnd = Err (Setup refusals.BadOffset)
inside_lines limit (answers.Chunk chunk) = Ok (chunk_lines limit (Some chunk.mime) chunk)

-- the lines of a command, for a client that may be told so many bytes, and for which this was read
unfoldable pub shown : ℕ → Option PictureTold → List Row → PicturesCommand → Result (List ℕ) CommandRefusal
shown limit told songs (commands.AlbumArt uri offset) = told_of Album uri offset told >>= album_lines limit
shown limit told songs (commands.ReadPicture uri offset) =
    must (has_uri songs uri) NoSuchSong >>= λ song. told_of Inside uri offset told >>= inside_lines limit

-- ---- what the code does

-- the lines were added, with room for what ends a command; or it was refused as it must be, or found no memory, and nothing was added
abbrev pub IsShownRefusal : Result (List ℕ) CommandRefusal → Failure → Type 0
IsShownRefusal lines (failures.Refused refusal) = lines ≡ Err refusal
IsShownRefusal lines failures.NoMemory = Unit {0}

pub record WentShowing (lines : Result (List ℕ) CommandRefusal) (work done : Work) : Type 0 where
  pub text : List ℕ
  pub is : lines ≡ Ok text
  pub adds : TellsText text work done
  pub room : HasRoom command_room done

abbrev pub RunsShowing : Result (List ℕ) CommandRefusal → Work → Work → Result (Unit {0}) Failure → Type 0
RunsShowing lines work done (Ok x) = WentShowing lines work done
RunsShowing lines work done (Err failure) = AddsNothing work done × IsShownRefusal lines failure
