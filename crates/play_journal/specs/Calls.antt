-- What the calls of a journal do to it.
use Rattle.std.specs.Prelude.{◌≡◌, ◌≢◌, ◌↔◌, ℕ, ◌+◌, ◌-◌, ◌^◌, ◌<◌, ◌≤◌, min, true, false, not, List, [], length, Some, Result, Err}
use Rattle.std.specs.Prelude.{MatchBool, OnErr}
use Rattle.disk_model.specs.History.{Change}
use Rattle.play_journal.specs.declared.refusal.JournalError.{JournalError}
use Rattle.play_journal.specs.declared.refusal.JournalError.TheVariants.{DiskFault, TooLong, NumbersSpent, OldLayout}
use Rattle.play_journal.specs.Content.{Content, IsKnownLayout, IsWrittenLayout}
use Rattle.play_journal.specs.File.{longest_body, records_len, spelling}
use Rattle.play_journal.specs.JournalState.{JournalState, IsMeasured, at_place}
use Rattle.play_journal.specs.Pair.{AllPairsNow}
use Rattle.play_journal.specs.Stored.{StoredParts}

-- the journal has this content, and whatever a crash now leaves of its files gives it
pub record Holds {D : Type 0} (history : D → List Change) (journal : JournalState D) (content : Content) : Type 0 where
  pub says : journal.content ≡ content
  pub kept : AllPairsNow (λ f. f ≡ Some journal.content) (history journal.a) (history journal.b)

-- the numbers of a journal are those of its content
pub record AreItsNumbers {D : Type 0} (journal : JournalState D) : Type 0 where
  pub layout : journal.content.layout ≡ journal.layout
  pub known : IsKnownLayout journal.layout
  pub generation : journal.content.generation ≡ journal.generation
  pub base : journal.content.base ≡ journal.base
  pub count : length journal.content.records ≡ journal.count
  pub measured : IsMeasured journal.content journal.snapshot_len journal.bytes
  pub last : journal.base + journal.count < 2 ^ 64

-- neither of two disks has failed in a call
pub record SameFaults {D : Type 0} (faults : D → ℕ) (old_a old_b new_a new_b : D) : Type 0 where
  pub a : faults new_a ≡ faults old_a
  pub b : faults new_b ≡ faults old_b

-- A journal that was just made of two disks in this layout, with a snapshot of this length: its first file is in use, and neither disk
-- has failed.
pub record IsNew {D : Type 0} (faults : D → ℕ) (a b : D) (journal : JournalState D) (written size : ℕ) : Type 0 where
  pub layout : journal.layout ≡ written
  pub generation : journal.generation ≡ 1
  pub base : journal.base ≡ 0
  pub snapshot_len : journal.snapshot_len ≡ size
  pub count : journal.count ≡ 0
  pub bytes : journal.bytes ≡ 0
  pub in_a : journal.is_in_b ≡ false
  pub usable : journal.is_spent ≡ false
  pub met_none : SameFaults faults a b journal.a journal.b

-- A journal that was opened over two disks, with the snapshot and the records that were found. The file that isn't in use keeps its
-- bytes, and neither disk has failed.
pub record IsOpened {D : Type 0} (Honest : Type 0) (content : D → List ℕ) (faults : D → ℕ) (a b : D) (journal : JournalState D)
    (stored : StoredParts) : Type 0 where
  pub same_snapshot : Honest → stored.snapshot ≡ journal.content.snapshot
  pub same_records : Honest → stored.records ≡ journal.content.records
  pub layout : Honest → journal.content.layout ≡ journal.layout
  pub generation : Honest → journal.content.generation ≡ journal.generation
  pub base : Honest → journal.content.base ≡ journal.base
  pub snapshot_len : length stored.snapshot ≡ journal.snapshot_len
  pub count : length stored.records ≡ journal.count
  pub bytes : records_len stored.records ≡ journal.bytes
  pub usable : journal.is_spent ≡ false
  pub other_file : Honest → MatchBool journal.is_in_b (content journal.a ≡ content a) (content journal.b ≡ content b)
  pub met_none : SameFaults faults a b journal.a journal.b

-- A record with a body of this length has this number, which is the next one. Its gate and its length take five bytes; bytes are counted
-- up to 2^64 - 1, which no honest disk comes to.
pub record IsNextRecord {D : Type 0} (old new : JournalState D) (size number : ℕ) : Type 0 where
  pub next : number ≡ old.base + old.count + 1
  pub count : new.count ≡ old.count + 1
  pub bytes : new.bytes ≡ min (old.bytes + (5 + size)) (2 ^ 64 - 1)
  pub usable : new.is_spent ≡ false

-- These records have the numbers up to this one, which are the next ones. Bytes are counted up to 2^64 - 1, which no honest disk comes
-- to. Without a record all is as it was.
pub record AreNextRecords {D : Type 0} (old new : JournalState D) (bodies : List (List ℕ)) (number : ℕ) : Type 0 where
  pub last : number ≡ old.base + old.count + length bodies
  pub count : new.count ≡ old.count + length bodies
  pub bytes : new.bytes ≡ min (old.bytes + records_len bodies) (2 ^ 64 - 1)
  pub usable : new.is_spent ≡ false
  pub none : bodies ≡ [] → new ≡ old

-- the file in use stays in use, and the other isn't touched
pub record StaysInFile {D : Type 0} (old new : JournalState D) : Type 0 where
  pub layout : new.layout ≡ old.layout
  pub generation : new.generation ≡ old.generation
  pub base : new.base ≡ old.base
  pub snapshot_len : new.snapshot_len ≡ old.snapshot_len
  pub same_file : new.is_in_b ≡ old.is_in_b
  pub other_file : MatchBool old.is_in_b (new.a ≡ old.a) (new.b ≡ old.b)

-- The next generation, with a snapshot of this length in this layout: its base counts all records from before, and records go to the
-- other file. Neither disk has failed.
pub record IsNextGeneration {D : Type 0} (faults : D → ℕ) (old new : JournalState D) (written size : ℕ) : Type 0 where
  pub layout : new.layout ≡ written
  pub generation : new.generation ≡ old.generation + 1
  pub base : new.base ≡ old.base + old.count
  pub snapshot_len : new.snapshot_len ≡ size
  pub count : new.count ≡ 0
  pub bytes : new.bytes ≡ 0
  pub other_file : new.is_in_b ≡ not old.is_in_b
  pub usable : new.is_spent ≡ false
  pub met_none : SameFaults faults old.a old.b new.a new.b

-- Bytes of this size are refused in this order: the journal is spent, they are longer than the longest, or the last number is
-- spent.
-- A disk fault spends the journal, and a refusal that is none changes nothing.
pub record RefusesInOrder {D T : Type 0} (old new : JournalState D) (longest size last : ℕ) (result : Result T JournalError) : Type 0 where
  pub spent : old.is_spent ≡ true → (result ≡ Err DiskFault) × (new ≡ old)
  pub too_long : old.is_spent ≡ false → ((result ≡ Err TooLong) ↔ (longest < size))
  pub numbers_spent : old.is_spent ≡ false → size ≤ longest → ((result ≡ Err NumbersSpent) ↔ (last ≡ 2 ^ 64 - 1))
  pub spends : result ≡ Err DiskFault → new.is_spent ≡ true
  pub stays : OnErr result (result ≢ Err DiskFault → new ≡ old)

-- A record is refused in this order: the journal is spent, its layout isn't one that is written, the record is longer
-- than the longest, or the last number is spent.
pub record RefusesRecord {D : Type 0} (old new : JournalState D) (size : ℕ) (result : Result ℕ JournalError) : Type 0 where
  pub spent : old.is_spent ≡ true → (result ≡ Err DiskFault) × (new ≡ old)
  pub old_layout : old.is_spent ≡ false → ((result ≡ Err OldLayout) ↔ (IsWrittenLayout old.layout → ⊥))
  pub in_order : IsWrittenLayout old.layout → RefusesInOrder old new longest_body size (old.base + old.count) result
  pub stays : OnErr result (result ≢ Err DiskFault → new ≡ old)

-- So many records are refused in this order: the journal is spent, its layout isn't one that is written, or the last of them
-- would have a number past 2^64 - 1. A disk fault spends the journal, and a refusal that is none changes nothing.
pub record RefusesRecords {D : Type 0} (old new : JournalState D) (many : ℕ) (result : Result ℕ JournalError) : Type 0 where
  pub spent : old.is_spent ≡ true → (result ≡ Err DiskFault) × (new ≡ old)
  pub old_layout : old.is_spent ≡ false → ((result ≡ Err OldLayout) ↔ (IsWrittenLayout old.layout → ⊥))
  pub numbers_spent : old.is_spent ≡ false → IsWrittenLayout old.layout
      → ((result ≡ Err NumbersSpent) ↔ (2 ^ 64 ≤ old.base + old.count + many))
  pub spends : result ≡ Err DiskFault → new.is_spent ≡ true
  pub stays : OnErr result (result ≢ Err DiskFault → new ≡ old)

-- the file in use
abbrev pub in_use : {D : Type 0} → JournalState D → D
in_use journal = at_place journal.is_in_b journal.a journal.b

-- There is room for so many bytes of records: the file in use has so many behind its closing gate.
abbrev pub HasRoom : {D : Type 0} → (D → List ℕ) → ℕ → JournalState D → Type 0
HasRoom content bytes journal = length (spelling journal.content) + 1 + bytes ≤ length (content (in_use journal))

-- the other file
abbrev pub not_in_use : {D : Type 0} → JournalState D → D
not_in_use journal = at_place journal.is_in_b journal.b journal.a

-- There is room for a snapshot of this length: the other file has so many bytes, and those of its head and its closing gate.
abbrev pub HasOtherRoom : {D : Type 0} → (D → List ℕ) → ℕ → JournalState D → Type 0
HasOtherRoom content snapshot_len journal = 32 + snapshot_len + 1 ≤ length (content (not_in_use journal))

-- its numbers, its layout, and which file is in use are as they were
pub record KeepsItsNumbers {D : Type 0} (old new : JournalState D) : Type 0 where
  pub count : new.count ≡ old.count
  pub bytes : new.bytes ≡ old.bytes
  pub layout : new.layout ≡ old.layout
  pub generation : new.generation ≡ old.generation
  pub base : new.base ≡ old.base
  pub snapshot_len : new.snapshot_len ≡ old.snapshot_len
  pub same_file : new.is_in_b ≡ old.is_in_b
  pub usable : new.is_spent ≡ old.is_spent

-- Room is refused where the journal is spent, and by a disk fault, which spends it.
pub record RefusesRoom {D T : Type 0} (old new : JournalState D) (result : Result T JournalError) : Type 0 where
  pub spent : old.is_spent ≡ true → (result ≡ Err DiskFault) × (new ≡ old)
  pub fault : OnErr result (result ≡ Err DiskFault)
  pub spends : result ≡ Err DiskFault → new.is_spent ≡ true
