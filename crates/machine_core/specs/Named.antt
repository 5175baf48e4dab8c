-- What a command names, looked up: songs by the numbers of their rows.
use Rattle.std.specs.Prelude.{◌≡◌, ℕ, List, [], ◌∷◌, map, Option, Some, None, Result, Ok, Err, if◌then◌else◌}
use Rattle.std.specs.List.{filter_map}
use Rattle.command_text.specs.declared.refusal.CommandRefusal.{CommandRefusal}
use Rattle.command_text.specs.declared.refusal.CommandRefusal.TheVariants.{NoSuchUri}
use Rattle.profile.specs.declared.profile.Profile.{Profile}
use Rattle.song_db.specs.Change.{has_uri}
use Rattle.song_db.specs.Place.{place_of}
use Rattle.song_db.specs.Query.{is_folder, number_at}
use Rattle.song_db.specs.Row.{Row, row_uri}
use Rattle.song_db.specs.declared.place.Place.{Place}
use Rattle.machine_core.specs.Lent.{lent}
use Rattle.machine_core.specs.Ordered.{told_in}
use Rattle.machine_core.specs.declared.work.Failure.{Failure}
use Rattle.machine_core.specs.declared.work.Failure.TheVariants.{Refused, NoMemory}

-- what is looked for isn't there, or no memory was found
abbrev pub IsNotFound : {A : Type 0} → Result A CommandRefusal → Failure → Type 0
IsNotFound looked (Refused refusal) = looked ≡ Err refusal
IsNotFound looked NoMemory = Unit {0}

-- a look-up gives what is there, or its refusal, or it finds no memory
abbrev pub Finds : {A : Type 0} → Result A CommandRefusal → Result A Failure → Type 0
Finds looked (Ok found) = looked ≡ Ok found
Finds looked (Err failure) = IsNotFound looked failure

-- the numbers of the rows of these songs; a song that is gone has none
abbrev pub numbers_of : List Row → List (List ℕ) → List ℕ
numbers_of songs uris = filter_map (number_at songs) uris

-- all songs under a folder, as they are told
abbrev pub numbers_under : Profile → List Row → Place → Result (List ℕ) CommandRefusal
numbers_under profile songs place =
    if is_folder songs place then Ok (numbers_of songs (map row_uri (told_in profile songs place))) else Err NoSuchUri

abbrev pub numbers_or_under : Profile → List Row → List ℕ → Option ℕ → Result (List ℕ) CommandRefusal
numbers_or_under profile songs path (Some number) = Ok (number ∷ [])
numbers_or_under profile songs path None = numbers_under profile songs (place_of (lent path))

-- the song of a path goes before the folder of that path
abbrev pub numbers_named : Profile → List Row → List ℕ → Result (List ℕ) CommandRefusal
numbers_named profile songs path = numbers_or_under profile songs path (number_at songs path)

-- a song that has a row
abbrev pub song_named : List Row → List ℕ → Result (List ℕ) CommandRefusal
song_named songs uri = if has_uri songs uri then Ok uri else Err NoSuchUri
