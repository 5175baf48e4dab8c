-- The songs of a queue by the ids of its entries, and the entries in the order of their ids.
use Rattle.std.specs.Prelude.{◌≡◌, ℕ, ◌≤◌, ◌==◌, nat_eq, List, [], ◌∷◌, if◌then◌else◌, map, Option, Some, None, is_some, IfSome}
use Rattle.std.specs.List.{list_any}
use Rattle.std.specs.Map.{lookup}
use Rattle.play_queue.specs.declared.entry.Entry.{Entry}
use Rattle.play_queue.specs.declared.song.Song.{Song}
use Rattle.play_queue.specs.Queue.{AllDiffer, with_stamp}

-- songs by id, in any order
abbrev pub Songs : Type 0
Songs = List (ℕ × Song)

abbrev pub song_of : Songs → ℕ → Option Song
song_of songs id = lookup (nat_eq id) songs

-- an entry but for its stamp, which stands apart; an id without a song has none of a song's either
abbrev pub unstamped_entry : ℕ → Option Song → Entry
unstamped_entry id None = record { id = id; uri = []; priority = 0; stamp = 0 }
unstamped_entry id (Some song) = record { id = id; uri = song.uri; priority = song.priority; stamp = 0 }

abbrev pub entry_of : Songs → ℕ → Entry
entry_of songs id = unstamped_entry id (song_of songs id)

-- the entries in the order of these ids
abbrev pub in_order : Songs → List ℕ → List Entry
in_order songs ids = map (entry_of songs) ids

-- entries but for their stamps
abbrev pub unstamped : List Entry → List Entry
unstamped entries = map (with_stamp 0) entries

-- songs by id and ids in order: each id stands there once, and exactly the ids that stand there have a song
pub record AreInOrder (songs : Songs) (order : List ℕ) : Type 0 where
  pub own_ids : AllDiffer order
  pub same : (id : ℕ) → is_some (song_of songs id) ≡ list_any (λ other. other == id) order

-- no song has a priority above this one
abbrev pub HaveNoMore : ℕ → Songs → Type 0
HaveNoMore top songs = (id : ℕ) → IfSome (song_of songs id) (λ song. song.priority ≤ top)

-- stamps at positions with these ids, where those ids stood before: a new one where an id is another
abbrev pub stamps_anew : List ℕ → List ℕ → ℕ → List ℕ → List ℕ
stamps_anew [] befores stamp stamps = stamps
stamps_anew (id ∷ ids) [] stamp stamps = stamps
stamps_anew (id ∷ ids) (before ∷ befores) stamp [] = []
stamps_anew (id ∷ ids) (before ∷ befores) stamp (own ∷ owns) =
    (if id == before then own else stamp) ∷ stamps_anew ids befores stamp owns
