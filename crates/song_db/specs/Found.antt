-- What a scan looks at, and what it finds there.
use Rattle.std.specs.Prelude.{◌≡◌, ℕ, ◌+◌, ◌≤◌, Bool, true, false, not, nat_lt, List, [], ◌∷◌, ◌++◌, filter, Option, Some}
use Rattle.std.specs.Prelude.{Result, Ok, Err, if◌then◌else◌}
use Rattle.std.specs.Str.{bytes_eq}
use Rattle.wave_pcm.specs.declared.info.WaveInfo.{WaveInfo}
use Rattle.wave_pcm.specs.declared.refusal.WaveError.{WaveError}
use Rattle.wave_pcm.specs.declared.refusal.WaveError.TheVariants.{NoMemory, NotWave, NoFormat, Unsupported, NoData, ReadFault, TooManyTurns}
use Rattle.song_db.specs.declared.change.RowChange.{RowChange}
use Rattle.song_db.specs.declared.change.RowChange.TheVariants.{Put}
use Rattle.song_db.specs.Limits.{MAX_FOLDERS}
use Rattle.song_files.specs.Folder.{File as MusicFile}
use Rattle.song_files.specs.Listing.{IsStampAt}
use Rattle.song_files.specs.declared.folder.FileStamp.{FileStamp}
use Rattle.song_db.specs.declared.refusal.SongDbError.{SongDbError}
use Rattle.song_db.specs.declared.rules.LibraryRules.{LibraryRules}
use Rattle.song_db.specs.declared.refusal.SongDbError.TheVariants.{NoMemory as MemoryRefused}
use Rattle.song_db.specs.declared.scan.found.Found.{Found}
use Rattle.song_db.specs.declared.scan.found.Found.TheVariants.{Song, Kept, NoSong}
use Rattle.song_db.specs.declared.scan.visit.Visit.{Visit}
use Rattle.song_db.specs.declared.scan.visit.Visit.TheVariants.{File, Folder, Nothing}
use Rattle.song_db.specs.Music.{Music, song_at, is_unchanged}
use Rattle.song_db.specs.Name.{folders_over, is_song}
use Rattle.song_db.specs.Pending.{Pending, file_at, below, times_pending}
use Rattle.song_db.specs.Place.{is_below}
use Rattle.song_db.specs.Row.{Row, row_of, is_within_limits}
use Rattle.song_db.specs.Scan.{is_in, is_sought, has_row}
use Rattle.song_db.specs.Uri.{is_uri}

-- what is done at a path, which is a folder's or a file's
abbrev pub visit_of : LibraryRules → List ℕ → Bool → Visit
visit_of rules path true = if nat_lt (folders_over path) MAX_FOLDERS then Folder path else Nothing
visit_of rules path false = if is_song rules path then File path else Nothing

-- what doesn't have the form of a URI is skipped
abbrev pub visit_at : LibraryRules → List ℕ → Bool → Visit
visit_at rules path is_folder = if is_uri path then visit_of rules path is_folder else Nothing

abbrev pub IsVisitIn : LibraryRules → Option (List ℕ) → Visit → Type 0
IsVisitIn rules place (File uri) = (is_sought rules place uri ≡ true) × (is_uri uri ≡ true)
IsVisitIn rules place (Folder uri) = is_in place uri ≡ true
IsVisitIn rules place Nothing = Unit {0}

-- what a listing told of the file that is read is told of it
abbrev pub IsVisitTold : List MusicFile → Visit → Option FileStamp → Type 0
IsVisitTold files (File uri) stamp = IsStampAt files uri stamp
IsVisitTold files (Folder uri) stamp = Unit {0}
IsVisitTold files Nothing stamp = Unit {0}

-- what a visit reads
abbrev pub visited : Visit → List Pending
visited (File uri) = file_at uri ∷ []
visited (Folder uri) = below uri ∷ []
visited Nothing = []

-- a visit takes from what is still to be read, and passes over nothing that can be a song
pub record IsTaken (rules : LibraryRules) (before : List Pending) (visit : Visit) (after : List Pending) : Type 0 where
  pub only : (uri : List ℕ) → times_pending (visited visit) uri + times_pending after uri ≤ times_pending before uri
  pub whole : (uri : List ℕ) → is_uri uri ≡ true → is_song rules uri ≡ true
      → times_pending before uri ≤ times_pending (visited visit) uri + times_pending after uri

-- every path that begins so is in the job's place
abbrev pub IsPrefixIn : Option (List ℕ) → List ℕ → Type 0
IsPrefixIn place prefix = (name : List ℕ) → is_in place (prefix ++ name) ≡ true

-- what the reading of a file's head tells of its row
abbrev pub found_of : List ℕ → Option FileStamp → Result WaveInfo WaveError → Result Found SongDbError
found_of uri stamp (Ok info) = Ok (if is_within_limits (row_of uri info stamp) then Song (row_of uri info stamp) else NoSong)
found_of uri stamp (Err NoMemory) = Err MemoryRefused
found_of uri stamp (Err ReadFault) = Ok (Kept uri)
found_of uri stamp (Err NotWave) = Ok NoSong
found_of uri stamp (Err NoFormat) = Ok NoSong
found_of uri stamp (Err (Unsupported tag bits channels)) = Ok NoSong
found_of uri stamp (Err NoData) = Ok NoSong
found_of uri stamp (Err TooManyTurns) = Ok NoSong

-- it isn't known only of a source that may fail
abbrev pub IsKnown : Found → Type 0
IsKnown (Song row) = Unit {0}
IsKnown (Kept uri) = ⊥
IsKnown NoSong = Unit {0}

-- it is of that URI
abbrev pub IsOf : List ℕ → Found → Type 0
IsOf uri (Song row) = row.uri ≡ uri
IsOf uri (Kept kept) = kept ≡ uri
IsOf uri NoSong = Unit {0}

-- what the row of the bytes under a URI is, if they have one
abbrev pub IsSongIn : Option Row → Found → Type 0
IsSongIn song (Song row) = (song ≡ Some row) × (is_within_limits row ≡ true)
IsSongIn song (Kept kept) = Unit {0}
IsSongIn song NoSong = has_row song ≡ false

-- a file is found where it isn't known with its stamp
abbrev pub IsFoundAt : Music → List ℕ → Found → Type 0
IsFoundAt music uri (Song row) = IsSongIn (song_at music uri) (Song row) × (is_unchanged music uri ≡ false)
IsFoundAt music uri (Kept kept) = Unit {0}
IsFoundAt music uri NoSong = IsSongIn (song_at music uri) NoSong × (is_unchanged music uri ≡ false)

-- and where nothing fails it is passed by only where it is
abbrev pub IsSureAt : Music → List ℕ → Found → Type 0
IsSureAt music uri (Song row) = Unit {0}
IsSureAt music uri (Kept kept) = is_unchanged music uri ≡ true
IsSureAt music uri NoSong = Unit {0}

abbrev pub changes_of : Found → List RowChange
changes_of (Song row) = Put row ∷ []
changes_of (Kept uri) = []
changes_of NoSong = []

abbrev pub without : List ℕ → List (List ℕ) → List (List ℕ)
without uri uris = filter (λ known. not (bytes_eq uri known)) uris

abbrev pub without_below : List ℕ → List (List ℕ) → List (List ℕ)
without_below folder uris = filter (λ known. not (is_below folder known)) uris

-- a song that was read or kept isn't dropped
abbrev pub still_droppable : Found → List (List ℕ) → List (List ℕ)
still_droppable (Song row) uris = without row.uri uris
still_droppable (Kept uri) uris = without uri uris
still_droppable NoSong uris = uris
