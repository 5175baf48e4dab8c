-- A whole scan, answer after answer.
use Rattle.std.specs.Prelude.{◌≡◌, ℕ, false, not, ◌&&◌, List, [], ◌∷◌, ◌++◌, Option, if◌then◌else◌}
use Rattle.song_files.specs.Folder.{File}
use Rattle.song_db.specs.declared.change.RowChange.{RowChange}
use Rattle.song_db.specs.Music.{Music, music_of, uris_of}
use Rattle.song_db.specs.Order.{Order}
use Rattle.song_db.specs.Pending.{own_pending}
use Rattle.song_db.specs.Scan.{Progress, ArePartOf, AreSongs, IsEnd, IsHonestAnswer, IsSameOrder, IsWholeAnswer}
use Rattle.song_db.specs.Scan.{drops_of, has_song, is_among, is_put, is_there, times_put}

-- a scan that has read nothing
abbrev pub begun : Order → Progress
begun order = record {
  job = order.job;
  place = order.uri;
  rules = order.rules;
  known = order.known;
  pending = own_pending order.uri;
  listed = [];
  droppable = uris_of order.known;
  is_over = false;
}

-- one answer over an honest folder that never fails, as `Scan::next` gives it
pub record IsStep (files : List File) (before after : Progress) (changes : List RowChange) : Type 0 where
  pub order : IsSameOrder before after
  pub drops : ArePartOf (drops_of changes ++ after.droppable) before.droppable
  pub read : IsHonestAnswer files before after changes
  pub whole : IsWholeAnswer files before after changes

-- the changes of the answers from one state of a scan to another
abbrev pub IsScan : List File → Progress → List (List RowChange) → Progress → Type 0
IsScan files before [] after = before ≡ after
IsScan files before (changes ∷ answers) after = (next : Progress) × IsStep files before next changes × IsScan files next answers after

abbrev pub joined : List (List RowChange) → List RowChange
joined [] = []
joined (changes ∷ answers) = changes ++ joined answers

-- the difference between the known songs and the files: each song is put once, with its row, but those known with the
-- stamp that their file has, and nothing else is; each known URI is dropped that is neither
pub record IsDifference (music : Music) (place : Option (List ℕ)) (changes : List RowChange) : Type 0 where
  pub puts : (uri : List ℕ) → times_put changes uri ≡ (if is_put music place uri then 1 else 0)
  pub songs : AreSongs music changes
  pub drops : (uri : List ℕ) → is_among (drops_of changes) uri ≡ (is_among (uris_of music.known) uri && not (is_there music place uri))

-- a scan from its beginning to its end tells the difference
abbrev pub ScansTellTheDifference : Type 0
ScansTellTheDifference =
    (files : List File) (order : Order) (answers : List (List RowChange)) (end : Progress)
    → IsScan files (begun order) answers end → IsEnd end
    → IsDifference (music_of order.rules order.known files) order.uri (joined answers)

-- where the rules keep no stamps, all songs are put, and what is no song is dropped
abbrev pub WithoutStampsAllIsRead : Type 0
WithoutStampsAllIsRead =
    (music : Music) (place : Option (List ℕ)) (uri : List ℕ) → music.rules.keeps_stamps ≡ false
    → (is_put music place uri ≡ has_song music place uri) × (is_there music place uri ≡ has_song music place uri)
