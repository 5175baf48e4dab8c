-- What a step of the reading of a scan does.
use Rattle.std.specs.Prelude.{◌≡◌, ℕ, Bool, true, false, List, [], Option}
use Rattle.song_db.specs.declared.change.RowChange.{RowChange}
use Rattle.song_db.specs.declared.scan.reader.Reader.{Reader}
use Rattle.song_db.specs.Batch.{IsHonestBatch, IsWholeBatch}
use Rattle.song_db.specs.Limits.{MAX_CHANGES}
use Rattle.song_db.specs.Music.{Music}
use Rattle.song_db.specs.Pending.{Pending}
use Rattle.song_db.specs.Scan.{AreSongs}

-- the job's place, the rules and the known songs stay
pub record IsSameOrderRead (before after : Reader) : Type 0 where
  pub place : after.walk.place ≡ before.walk.place
  pub rules : after.walk.rules ≡ before.walk.rules
  pub known : after.droppable.known ≡ before.droppable.known

-- and whether the place was looked at
pub record IsSameScan (before after : Reader) : Type 0 where
  pub place : after.walk.place ≡ before.walk.place
  pub rules : after.walk.rules ≡ before.walk.rules
  pub known : after.droppable.known ≡ before.droppable.known
  pub begun : after.is_begun ≡ before.is_begun

-- over an honest folder, what is true of the changes so far, of what is still to be read and of what may still be dropped,
-- is true of them afterwards, whatever there was at the start of the batch
pub record IsReadOn (music : Music) (steady : Type 0) (place : Option (List ℕ)) (before : List Pending) (known : List (List ℕ))
    (changes : List RowChange) (after : List Pending) (left : List (List ℕ)) (more : List RowChange) : Type 0 where
  pub songs : AreSongs music changes → AreSongs music more
  pub honest : (start : List Pending) (first : List (List ℕ)) → IsHonestBatch music place start first before known changes
      → IsHonestBatch music place start first after left more
  pub whole : (start : List Pending) (first : List (List ℕ)) → steady → IsWholeBatch music place start first before known changes
      → IsWholeBatch music place start first after left more

-- a batch is full, or nothing that was entered is still to be read
abbrev pub IsFilled : Bool → ℕ → List Pending → Type 0
IsFilled true len pending = len ≡ MAX_CHANGES
IsFilled false len pending = pending ≡ []
