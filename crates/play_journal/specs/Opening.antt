-- What the steps of opening and appending do to one file.
use Rattle.std.specs.Prelude.{◌≡◌, ◌⊎◌, ℕ, Bool, true, false, List, ◌∷◌, ◌++◌, length, Option, Some, None, Result, Ok, Err, nat_lt, ◌==◌}
use Rattle.std.specs.Prelude.{if◌then◌else◌}
use Rattle.disk_model.specs.History.{Change}
use Rattle.disk_model.specs.Images.{window, IsImage}
use Rattle.disk_model.specs.Moments.{LeftSince}
use Rattle.play_journal.specs.declared.refusal.JournalError.{JournalError}
use Rattle.play_journal.specs.declared.refusal.JournalError.TheVariants.{NotEmpty, NoJournal, Damaged, DiskFault, NoMemory, TooLong}
use Rattle.play_journal.specs.declared.refusal.JournalError.TheVariants.{NumbersSpent, OldLayout}
use Rattle.play_journal.specs.Reading.{Front, Closed, Bad, Open, front, read}

-- how a file begins, as the code tells it
abbrev pub told_front : Front → Result (Option ℕ) JournalError
told_front Closed = Ok None
told_front (Bad offset) = Err (Damaged offset)
told_front (Open generation) = Ok (Some generation)

-- which of two files is the one in use, by their generations: the second, or the first
abbrev pub is_second : Option ℕ → Option ℕ → Result Bool JournalError
is_second None None = Err NoJournal
is_second (Some generation) None = Ok false
is_second None (Some generation) = Ok true
is_second (Some generation) (Some other) = if generation == other then Err (Damaged 12) else Ok (nat_lt generation other)

-- the file in use of two that begin so: the second, or the first
abbrev pub chosen_file : Front → Front → Result Bool JournalError
chosen_file (Bad offset) other = Err (Damaged offset)
chosen_file Closed (Bad offset) = Err (Damaged offset)
chosen_file (Open generation) (Bad offset) = Err (Damaged offset)
chosen_file Closed Closed = is_second None None
chosen_file (Open generation) Closed = is_second (Some generation) None
chosen_file Closed (Open generation) = is_second None (Some generation)
chosen_file (Open generation) (Open other) = is_second (Some generation) (Some other)

-- the two files read the same, whatever stands in the other file of their pair
pub record ReadsSame (new old : List ℕ) : Type 0 where
  pub front : front new ≡ front old
  pub read : read new ≡ read old

-- each image since then reads as some image from before
abbrev pub KeepsFile : List Change → List Change → Type 0
KeepsFile old new = (x : List ℕ) → LeftSince new (length old) x → (v : List ℕ) × IsImage (window old) v × ReadsSame x v

-- The file from before, with other bytes behind its closed gate, or the same with some gate before the record, behind which any bytes
-- stand.
abbrev pub IsAppending : List ℕ → ℕ → List ℕ → List ℕ → Type 0
IsAppending before gate added image =
    ((rest : List ℕ) × (image ≡ before ++ gate ∷ rest)) ⊎ ((byte : ℕ) × (rest : List ℕ) × (image ≡ before ++ (byte ∷ added ++ rest)))

-- the files are wrong in this way, or the call gave up before it knew
abbrev pub IsCause : {X : Type 0} → Result X JournalError → JournalError → Type 0
IsCause read NotEmpty = ⊥
IsCause read NoJournal = read ≡ Err NoJournal
IsCause read (Damaged offset) = read ≡ Err (Damaged offset)
IsCause read DiskFault = Unit {0}
IsCause read NoMemory = Unit {0}
IsCause read TooLong = ⊥
IsCause read NumbersSpent = ⊥
IsCause read OldLayout = ⊥
