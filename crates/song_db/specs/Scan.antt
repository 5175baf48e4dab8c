-- What a scan answers.
use Rattle.std.specs.Prelude.{◌≡◌, ℕ, ◌+◌, ◌<◌, ◌≤◌, Bool, true, false, ◌||◌, ◌&&◌, List, [], ◌∷◌, ◌++◌, length, filter, count_by}
use Rattle.std.specs.Prelude.{Option, Some, None, not}
use Rattle.std.specs.List.{list_any, All}
use Rattle.std.specs.Str.{bytes_eq}
use Rattle.std.specs.declared.vec.Vec.{Vec}
use Rattle.song_files.specs.Folder.{File}
use Rattle.song_db.specs.declared.change.RowChange.{RowChange}
use Rattle.song_db.specs.declared.change.RowChange.TheVariants.{Put, Drop}
use Rattle.song_db.specs.declared.known_song.KnownSong.{KnownSong}
use Rattle.song_db.specs.declared.rules.LibraryRules.{LibraryRules}
use Rattle.song_db.specs.Limits.{MAX_CHANGES}
use Rattle.song_db.specs.Music.{Music, music_of, song_at, is_unchanged}
use Rattle.song_db.specs.Name.{is_song}
use Rattle.song_db.specs.Pending.{AreTold, Listed, Pending, times_pending}
use Rattle.song_db.specs.Place.{is_below}
use Rattle.song_db.specs.Row.{Row, is_within_limits}
use Rattle.song_db.specs.Uri.{is_uri}

-- the job and its folder or song, or none for the root; the rules and the known songs; what is still to be read, and what is left of the
-- listings; the known URIs that may still be dropped; and whether it is over
pub record Progress : Type 0 where
  pub job : ℕ
  pub place : Option (List ℕ)
  pub rules : LibraryRules
  pub known : List KnownSong
  pub pending : List Pending
  pub listed : List Listed
  pub droppable : List (List ℕ)
  pub is_over : Bool

-- what a job reads: below its folder, or the song itself
abbrev pub is_in : Option (List ℕ) → List ℕ → Bool
is_in None path = true
is_in (Some uri) path = bytes_eq path uri || is_below uri path

-- what a job seeks: files there that have the name of a song, within the depth
abbrev pub is_sought : LibraryRules → Option (List ℕ) → List ℕ → Bool
is_sought rules place path = is_in place path && is_song rules path

abbrev pub puts_of : List RowChange → List Row
puts_of [] = []
puts_of (Put row ∷ changes) = row ∷ puts_of changes
puts_of (Drop uri ∷ changes) = puts_of changes

abbrev pub drops_of : List RowChange → List (List ℕ)
drops_of [] = []
drops_of (Put row ∷ changes) = drops_of changes
drops_of (Drop uri ∷ changes) = uri ∷ drops_of changes

abbrev pub is_among : List (List ℕ) → List ℕ → Bool
is_among uris uri = list_any (bytes_eq uri) uris

-- some of them, in their order
abbrev pub ArePartOf : List (List ℕ) → List (List ℕ) → Type 0
ArePartOf part uris = (test : List ℕ → Bool) × (part ≡ filter test uris)

-- what one answer of changes does: one that isn't full is the last; each known URI is dropped once at most, in their
-- order, and none that was read is dropped with it or later
pub record IsAnswer (before after : Progress) (changes : List RowChange) : Type 0 where
  pub some : 0 < length changes
  pub few : length changes ≤ MAX_CHANGES
  pub last : length changes < MAX_CHANGES → (after.pending ≡ []) × (after.droppable ≡ [])
  pub sought : All (λ row. is_sought before.rules before.place row.uri ≡ true) (puts_of changes)
  pub drops : ArePartOf (drops_of changes ++ after.droppable) before.droppable
  pub read_stay : All (λ row. is_among (drops_of changes ++ after.droppable) row.uri ≡ false) (puts_of changes)
  pub going : after.is_over ≡ false

-- the end: nothing is still to be read, and nothing to be dropped
pub record IsEnd (after : Progress) : Type 0 where
  pub is_over : after.is_over ≡ true
  pub pending : after.pending ≡ []
  pub droppable : after.droppable ≡ []

-- the order of a scan stays
pub record IsSameOrder (before after : Progress) : Type 0 where
  pub job : after.job ≡ before.job
  pub place : after.place ≡ before.place
  pub rules : after.rules ≡ before.rules
  pub known : after.known ≡ before.known

-- each song that was read is one of the files
abbrev pub AreSongs : Music → List RowChange → Type 0
AreSongs music changes = All (λ row. song_at music row.uri ≡ Some row) (puts_of changes)

-- a WAVE file whose row is within the limits
abbrev pub has_row : Option Row → Bool
has_row None = false
has_row (Some row) = is_within_limits row

-- a job seeks a song at a path: one of the files, in the job's place, with a song's name, within depth and limits
abbrev pub has_song : Music → Option (List ℕ) → List ℕ → Bool
has_song music place uri = is_uri uri && (is_sought music.rules place uri && has_row (song_at music uri))

-- a song that is to be put: it isn't known with the stamp that its file has
abbrev pub is_put : Music → Option (List ℕ) → List ℕ → Bool
is_put music place uri =
    is_uri uri && (is_sought music.rules place uri && (has_row (song_at music uri) && not (is_unchanged music uri)))

-- a URI whose row isn't dropped: a song, or what is known with the stamp that its file has
abbrev pub is_there : Music → Option (List ℕ) → List ℕ → Bool
is_there music place uri =
    is_uri uri && (is_sought music.rules place uri && (has_row (song_at music uri) || is_unchanged music uri))

-- how often a song is put
abbrev pub times_put : List RowChange → List ℕ → ℕ
times_put changes uri = count_by (λ row. bytes_eq uri row.uri) (puts_of changes)

-- what is there and may still be dropped is still to be read
abbrev pub IsCareful : Music → Option (List ℕ) → List Pending → List (List ℕ) → Type 0
IsCareful music place pending droppable =
    (uri : List ℕ) → is_there music place uri ≡ true → is_among droppable uri ≡ true → 0 < times_pending pending uri

-- what is read of an honest folder, whether it fails or not: what is put was still to be read, and is no more; nothing
-- new is to be read; what is put is a song that isn't known with its stamp, with its row, and what is dropped isn't there
pub record IsHonestRead (music : Music) (place : Option (List ℕ)) (before after : List Pending) (known left : List (List ℕ))
    (changes : List RowChange) : Type 0 where
  pub read : (uri : List ℕ) → times_put changes uri + times_pending after uri ≤ times_pending before uri
  pub puts : All (λ row. is_put music place row.uri ≡ true) (puts_of changes)
  pub songs : AreSongs music changes
  pub drops : IsCareful music place before known → All (λ uri. is_there music place uri ≡ false) (drops_of changes)
  pub careful : IsCareful music place before known → IsCareful music place after left

-- and of one that never fails: a song that is no more to be read was put, or its known stamp is that of the file; and a
-- known URI that isn't there is dropped, now or later
pub record IsWholeRead (music : Music) (place : Option (List ℕ)) (before after : List Pending) (known left : List (List ℕ))
    (changes : List RowChange) : Type 0 where
  pub read : (uri : List ℕ) → is_put music place uri ≡ true
      → times_pending before uri ≤ times_put changes uri + times_pending after uri
  pub gone : (uri : List ℕ) → is_there music place uri ≡ false → is_among known uri ≡ true
      → is_among (drops_of changes ++ left) uri ≡ true

-- an answer, where what was listed before is so still; then it is so afterwards too
abbrev pub IsHonestAnswer : List File → Progress → Progress → List RowChange → Type 0
IsHonestAnswer files before after changes =
    AreTold files before.listed → AreTold files after.listed × IsHonestRead (music_of before.rules before.known files) before.place
    before.pending after.pending before.droppable after.droppable changes

abbrev pub IsWholeAnswer : List File → Progress → Progress → List RowChange → Type 0
IsWholeAnswer files before after changes =
    AreTold files before.listed → IsWholeRead (music_of before.rules before.known files) before.place before.pending after.pending
    before.droppable after.droppable changes

-- the changes of an answer; none at the end
abbrev pub changes_in : {A : Type 0} → Option (Vec RowChange A) → List RowChange
changes_in None = []
changes_in (Some changes) = changes.items
