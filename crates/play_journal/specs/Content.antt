-- What a journal says, without where it lies.
use Rattle.std.specs.Prelude.{◌≡◌, ◌⊎◌, ℕ, ◌+◌, List, [], ◌∷◌, ◌++◌, length, Option, Some}

-- The layout and the generation of its file, how many records went before the snapshot, the snapshot, and the records after
-- it in order. A file of a greater generation takes the place of the other.
pub record Content : Type 0 where
  pub layout : ℕ
  pub generation : ℕ
  pub base : ℕ
  pub snapshot : List ℕ
  pub records : List (List ℕ)

-- the layout of before: it is read, and no record is added to it
abbrev pub old_layout : ℕ
old_layout = 1

-- the layouts that are written; a checkpoint says in which of them
abbrev pub second_layout : ℕ
second_layout = 2

abbrev pub third_layout : ℕ
third_layout = 3

-- a layout that is written
abbrev pub IsWrittenLayout : ℕ → Type 0
IsWrittenLayout layout = (layout ≡ second_layout) ⊎ (layout ≡ third_layout)

-- a layout that is read
abbrev pub IsKnownLayout : ℕ → Type 0
IsKnownLayout layout = (layout ≡ old_layout) ⊎ IsWrittenLayout layout

-- a new journal in this layout
abbrev pub fresh : ℕ → List ℕ → Content
fresh layout snapshot = record { layout = layout; generation = 1; base = 0; snapshot = snapshot; records = [] }

-- the number of the last record
abbrev pub last_record : Content → ℕ
last_record content = content.base + length content.records

-- the same with one record more
abbrev pub with_record : Content → List ℕ → Content
with_record content body = record content { records = content.records ++ body ∷ [] }

-- the same with these records more
abbrev pub with_records : Content → List (List ℕ) → Content
with_records content bodies = record content { records = content.records ++ bodies }

-- the next generation: this snapshot in place of the snapshot before and its records, in this layout
abbrev pub with_snapshot : Content → ℕ → List ℕ → Content
with_snapshot content layout snapshot =
    record { layout = layout; generation = content.generation + 1; base = last_record content; snapshot = snapshot; records = [] }

-- one content or the other is found, and nothing else
abbrev pub IsEither : Content → Content → Option Content → Type 0
IsEither before after found = (found ≡ Some before) ⊎ (found ≡ Some after)

-- the content from before, or with the new record
abbrev pub IsBeforeOrAfter : Content → List ℕ → Option Content → Type 0
IsBeforeOrAfter before body found = IsEither before (with_record before body) found

-- the content from before, or the new snapshot in this layout without records
abbrev pub IsOldOrNew : Content → ℕ → List ℕ → Option Content → Type 0
IsOldOrNew before layout snapshot found = IsEither before (with_snapshot before layout snapshot) found
