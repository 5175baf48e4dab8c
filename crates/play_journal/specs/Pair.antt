-- What two files give together.
use Rattle.std.specs.Prelude.{◌≡◌, ◌⊎◌, ℕ, ◌<◌, List, length, Option, Result, Ok, Err, nat_lt, ◌==◌, if◌then◌else◌}
use Rattle.std.specs.Result.{result_ok}
use Rattle.disk_model.specs.History.{Change}
use Rattle.disk_model.specs.Images.{window, IsImage}
use Rattle.disk_model.specs.Moments.{LeftSince}
use Rattle.play_journal.specs.declared.refusal.JournalError.{JournalError}
use Rattle.play_journal.specs.declared.refusal.JournalError.TheVariants.{NoJournal, Damaged}
use Rattle.play_journal.specs.Content.{Content}
use Rattle.play_journal.specs.File.{IsFile, IsShut, IsOpenAt}
use Rattle.play_journal.specs.Reading.{Front, Closed, Bad, Open, front, read}

abbrev pub told : Result Content ℕ → Result Content JournalError
told (Ok content) = Ok content
told (Err offset) = Err (Damaged offset)

-- of two files that begin so and read so: the open one of greater generation
abbrev pub chosen : Front → Front → Result Content ℕ → Result Content ℕ → Result Content JournalError
chosen (Bad offset) other a b = Err (Damaged offset)
chosen Closed (Bad offset) a b = Err (Damaged offset)
chosen (Open generation) (Bad offset) a b = Err (Damaged offset)
chosen Closed Closed a b = Err NoJournal
chosen (Open generation) Closed a b = told a
chosen Closed (Open generation) a b = told b
chosen (Open generation) (Open other) a b =
    if generation == other then Err (Damaged 12) else if nat_lt other generation then told a else told b

-- the content that a pair of files gives, or what is wrong with it
abbrev pub reading : List ℕ → List ℕ → Result Content JournalError
reading a b = chosen (front a) (front b) (read a) (read b)

-- the content that a pair of files gives, or none
unfoldable pub found : List ℕ → List ℕ → Option Content
found a b = result_ok (reading a b)

-- The bytes don't count beside a file of this generation: they are no open file, or begin as one of a lower generation.
abbrev pub IsBelow : ℕ → List ℕ → Type 0
IsBelow generation bytes = IsShut bytes ⊎ ((lower : ℕ) × (lower < generation) × IsOpenAt bytes lower)

-- one of the two is this file, and the other doesn't count beside it
abbrev pub IsPair : List ℕ → List ℕ → Content → Type 0
IsPair a b file = (IsFile a file × IsBelow file.generation b) ⊎ (IsFile b file × IsBelow file.generation a)

-- whatever a crash now leaves of two files, what they give has P
abbrev pub AllPairsNow : (Option Content → Type 0) → List Change → List Change → Type 0
AllPairsNow P a b = (x y : List ℕ) → IsImage (window a) x → IsImage (window b) y → P (found x y)

-- whatever crashes since these moments left of two files, each at a moment of its own, what they give has P
abbrev pub AllPairsSince : (Option Content → Type 0) → List Change → ℕ → List Change → ℕ → Type 0
AllPairsSince P a s b t = (x y : List ℕ) → LeftSince a s x → LeftSince b t y → P (found x y)

-- each pair that crashes left since then gives what some pair gave before
abbrev pub KeepsFound : List Change → List Change → List Change → List Change → Type 0
KeepsFound old_a old_b new_a new_b =
    (x y : List ℕ) → LeftSince new_a (length old_a) x → LeftSince new_b (length old_b) y
    → (v w : List ℕ) × IsImage (window old_a) v × IsImage (window old_b) w × (found x y ≡ found v w)
