-- What the steps of making and of opening a journal do to two disks.
use Rattle.std.specs.Prelude.{◌≡◌, ◌≢◌, ◌↔◌, ℕ, ◌+◌, ◌^◌, ◌<◌, ◌≤◌, Bool, List, length, take, Ok}
use Rattle.disk_model.specs.Calls.{IsSameOrAdds}
use Rattle.disk_model.specs.History.{Change, Synced}
use Rattle.disk_model.specs.Images.{window, settled}
use Rattle.play_journal.specs.declared.reading.FileRead.{FileRead}
use Rattle.play_journal.specs.declared.refusal.JournalError.{JournalError}
use Rattle.play_journal.specs.declared.refusal.JournalError.TheVariants.{NotEmpty}
use Rattle.play_journal.specs.Errors.{IsRefusalOfCreate}
use Rattle.play_journal.specs.File.{records_len}
use Rattle.play_journal.specs.FileRead.{content_read}
use Rattle.play_journal.specs.JournalState.{JournalState, at_place, content_in, IsKept}
use Rattle.play_journal.specs.Pair.{reading}
use Rattle.play_journal.specs.Reading.{read}
use Rattle.play_journal.specs.Room.{room}

-- a disk was synced, or nothing was done to it
pub record IsSyncedOrNot {D : Type 0} (honest : D → Type 0) (history : D → List Change) (content : D → List ℕ) (faults : D → ℕ)
    (old new : D) : Type 0 where
  pub honesty : honest old ↔ honest new
  pub counted : faults old ≤ faults new
  pub synced : honest old → IsSameOrAdds (Synced (content old)) (history old) (history new)

-- of each disk a crash now leaves just the bytes that it has
pub record AreSettled {D : Type 0} (honest : D → Type 0) (history : D → List Change) (content : D → List ℕ)
    (old_a old_b new_a new_b : D) : Type 0 where
  pub a : honest old_a → window (history new_a) ≡ settled (content new_a)
  pub b : honest old_b → window (history new_b) ≡ settled (content new_b)

-- each disk has the bytes from before
pub record KeepBytes {D : Type 0} (honest : D → Type 0) (content : D → List ℕ) (old_a old_b new_a new_b : D) : Type 0 where
  pub a : honest old_a → content new_a ≡ content old_a
  pub b : honest old_b → content new_b ≡ content old_b

-- the first disk has these bytes, the second those from before, and a crash now leaves just these
pub record IsLaidFirst {D : Type 0} (honest : D → Type 0) (history : D → List Change) (content : D → List ℕ)
    (old_a old_b new_a new_b : D) (bytes : List ℕ) : Type 0 where
  pub written : honest old_a → content new_a ≡ bytes
  pub other : honest old_b → content new_b ≡ content old_b
  pub settled : AreSettled honest history content old_a old_b new_a new_b

-- neither disk was called
pub record AreUntouched {D : Type 0} (old_a old_b new_a new_b : D) : Type 0 where
  pub a : new_a ≡ old_a
  pub b : new_b ≡ old_b

-- what laying down the first file refuses with: that a file isn't empty is no such refusal
pub record IsRefusalOverEmpty (error : JournalError) : Type 0 where
  pub refusal : IsRefusalOfCreate error
  pub not_empty : error ≢ NotEmpty

-- there is room for a record, each record of the file has a number, and the closing gate stands behind them
pub record IsReady (capacity : ℕ) (file : FileRead) : Type 0 where
  pub room : room ≤ capacity
  pub numbers : file.base + length file.stored.records < 2 ^ 64
  pub end : file.end ≡ 32 + length file.stored.snapshot + records_len file.stored.records

-- This was read from the bytes from before, and the disk is settled with what of them goes up to the closing gate.
pub record IsReadAndCut (old new : List ℕ) (done : List Change) (file : FileRead) : Type 0 where
  pub read : read old ≡ Ok (content_read file)
  pub cut : new ≡ take (file.end + 1) old
  pub settled : window done ≡ settled new

-- Of two disks the one at this place was opened: this is what both give together, and what it says now. It is in use, and the
-- other has its bytes from before.
pub record IsInUseOf {D : Type 0} (history : D → List Change) (content : D → List ℕ) (old_a old_b new_a new_b : D) (swapped : Bool)
    (file : FileRead) : Type 0 where
  pub read : reading (content old_a) (content old_b) ≡ Ok (content_read file)
  pub says : content_in (content (at_place swapped new_a new_b)) ≡ content_read file
  pub in_use : IsKept (content (at_place swapped new_a new_b)) (content (at_place swapped new_b new_a))
      (history (at_place swapped new_a new_b)) (history (at_place swapped new_b new_a)) file.end file.layout file.generation file.base
      (length file.stored.records)
  pub other : content (at_place swapped new_b new_a) ≡ content (at_place swapped old_b old_a)

-- the numbers of a journal are those of the file that was read
pub record HasNumbersOf {D : Type 0} (file : FileRead) (journal : JournalState D) : Type 0 where
  pub layout : journal.layout ≡ file.layout
  pub generation : journal.generation ≡ file.generation
  pub base : journal.base ≡ file.base
  pub snapshot_len : journal.snapshot_len ≡ length file.stored.snapshot
  pub count : journal.count ≡ length file.stored.records
  pub bytes : journal.bytes ≡ records_len file.stored.records
