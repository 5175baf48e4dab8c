-- The numbers by which a stage counts, and which can be spent.
use Rattle.std.specs.Prelude.{◌≡◌, ◌⊎◌, ℕ, ◌+◌, ◌-◌, ◌/◌, ◌^◌, ◌==◌, min, max, Bool, true, false, not, ◌&&◌, ◌||◌, List, [], ◌∷◌}
use Rattle.std.specs.Prelude.{length, Option, Some, None, nat_le, nat_lt, if◌then◌else◌}
use Rattle.profile.specs.declared.profile.Profile.{Profile}
use Rattle.state_codec.specs.declared.op.Op.{Op}
use Rattle.state_codec.specs.Layout.{written_layout}
use Rattle.state_codec.specs.SavedState.{SavedState}
use Rattle.state_codec.specs.Spelling.{body_bytes, saved_bytes}
use Rattle.play_journal.specs.Content.{Content, last_record, third_layout}
use Rattle.play_journal.specs.File.{longest_body, records_len}
use Rattle.play_journal.specs.Pieces.{most_pieces}

-- How many events there were since the stage was made or opened, and the number of the last record in file and snapshot.
pub record Numbers : Type 0 where
  pub event : ℕ
  pub last_record : ℕ

-- The layout and the generation of the file to which records go, the length of its snapshot, how many records stand behind that, how many
-- bytes they take, and whether a checkpoint is put off, since the disk has no room for it.
pub record FileNumbers : Type 0 where
  pub layout : ℕ
  pub generation : ℕ
  pub snapshot_len : ℕ
  pub records : ℕ
  pub bytes : ℕ
  pub is_put_off : Bool

-- no number is greater
abbrev pub greatest : ℕ
greatest = 2 ^ 64 - 1

-- those of a stage that was just made
abbrev pub first_numbers : Numbers
first_numbers = record { event = 0; last_record = 0 }

-- the length of a state's snapshot
abbrev pub snapshot_size : SavedState → ℕ
snapshot_size s = length (saved_bytes s)

-- how many calls of its disk a checkpoint of this state makes at most: eight, and one for each piece of its snapshot
abbrev pub checkpoint_calls : SavedState → ℕ
checkpoint_calls s = 8 + most_pieces (snapshot_size s)

abbrev pub first_file : SavedState → FileNumbers
first_file s =
    record {
      layout = written_layout s.profile;
      generation = 1;
      snapshot_len = snapshot_size s;
      records = 0;
      bytes = 0;
      is_put_off = false;
    }

-- those of a stage that was just opened over files that give this
abbrev pub numbers_found : Content → Numbers
numbers_found content = record { event = 0; last_record = last_record content }

abbrev pub file_found : Content → FileNumbers
file_found content =
    record {
      layout = content.layout;
      generation = content.generation;
      snapshot_len = length content.snapshot;
      records = length content.records;
      bytes = records_len content.records;
      is_put_off = false;
    }

-- The numbers after an event with these ops: it is counted, and so is its record, where its ops make one.
abbrev pub next_numbers : Numbers → List Op → Numbers
next_numbers before [] = record before { event = before.event + 1 }
next_numbers before (op ∷ ops) = record { event = before.event + 1; last_record = before.last_record + 1 }

-- the number of the event's record, if its ops make one, where the last record had this one
abbrev pub record_number : ℕ → List Op → Option ℕ
record_number last [] = None
record_number last (op ∷ ops) = Some (last + 1)

-- Where so many records stand behind a snapshot, a checkpoint is due: 4,096, or in layout 3 as many as the snapshot has KiB, if that is
-- more.
abbrev pub most_records : ℕ → ℕ → ℕ
most_records layout snapshot_len = if layout == third_layout then max 4096 (snapshot_len / 1024) else 4096

-- and where more than so many bytes of records do: 4 MiB, or as many as a longer snapshot has
abbrev pub most_bytes : ℕ → ℕ
most_bytes snapshot_len = max 4194304 snapshot_len

-- where the events of the records looked at more than so much, a checkpoint is made too once room is looked for: as much as twenty
-- requests may
abbrev pub most_work : ℕ
most_work = 200000000

-- how many bytes a record takes at most, with its gate and its length
abbrev pub longest_record : ℕ
longest_record = 5 + longest_body

-- whether the next turn makes a checkpoint first: one that is put off isn't made
abbrev pub is_due : FileNumbers → Bool
is_due file = not file.is_put_off
    && (nat_le (most_records file.layout file.snapshot_len) file.records || nat_lt (most_bytes file.snapshot_len) file.bytes)

-- a checkpoint that is due is put off
abbrev pub put_off : FileNumbers → FileNumbers
put_off file = if is_due file then record file { is_put_off = true } else file

-- those of the file that a checkpoint of this state lays down
abbrev pub next_file : SavedState → FileNumbers → FileNumbers
next_file s file =
    record {
      layout = written_layout s.profile;
      generation = file.generation + 1;
      snapshot_len = snapshot_size s;
      records = 0;
      bytes = 0;
      is_put_off = false;
    }

-- those of the file to which a turn's record goes, before which the state is this
abbrev pub ready_file : SavedState → FileNumbers → FileNumbers
ready_file s file = if is_due file then next_file s file else file

-- how much the events of the records in it looked at
abbrev pub ready_work : FileNumbers → ℕ → ℕ
ready_work file work = if is_due file then 0 else work

-- how many bytes the record of these ops takes, if there are any: its gate, its length and its body
abbrev pub record_bytes : Profile → List Op → ℕ
record_bytes profile [] = 0
record_bytes profile (op ∷ ops) = 5 + length (body_bytes profile (op ∷ ops))

-- with the record of these ops, if there are any; bytes are counted up to the greatest number, which no honest disk comes to
abbrev pub recorded : Profile → FileNumbers → List Op → FileNumbers
recorded profile file [] = file
recorded profile file (op ∷ ops) =
    record file { records = file.records + 1; bytes = min (file.bytes + record_bytes profile (op ∷ ops)) greatest }

-- the last event or the last record has the greatest number
abbrev pub AreCountsSpent : Numbers → Type 0
AreCountsSpent numbers = (numbers.event ≡ greatest) ⊎ (numbers.last_record ≡ greatest)

-- no event can be taken, since the last event or the last record has the greatest number, or the file has the greatest generation and
-- a checkpoint is due
abbrev pub AreSpent : Numbers → FileNumbers → Type 0
AreSpent numbers file = AreCountsSpent numbers ⊎ ((is_due file ≡ true) × (file.generation ≡ greatest))
