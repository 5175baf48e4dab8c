-- A journal, as contracts see it.
use Rattle.std.specs.Prelude.{◌≡◌, ℕ, ◌+◌, ◌≤◌, Bool, List, [], length, unwrap_or, if◌then◌else◌}
use Rattle.std.specs.Result.{result_ok}
use Rattle.disk_model.specs.History.{Change}
use Rattle.disk_model.specs.Images.{window, settled}
use Rattle.play_journal.specs.Content.{Content}
use Rattle.play_journal.specs.File.{IsFile, records_len, spelling}
use Rattle.play_journal.specs.Pair.{IsBelow}
use Rattle.play_journal.specs.Reading.{read}

-- The two disks; the layout and the generation of the file in use, its base, the length of its snapshot, the count of records since and
-- how many bytes they take; what the files say, as long as the disks are honest and the journal isn't spent; whether it is spent; and
-- whether file b is the one in use.
pub record JournalState (D : Type 0) : Type 0 where
  pub a : D
  pub b : D
  pub layout : ℕ
  pub generation : ℕ
  pub base : ℕ
  pub snapshot_len : ℕ
  pub count : ℕ
  pub bytes : ℕ
  pub content : Content
  pub is_spent : Bool
  pub is_in_b : Bool

abbrev pub no_content : Content
no_content = record { layout = 0; generation = 0; base = 0; snapshot = []; records = [] }

-- what a file's bytes say, or nothing
abbrev pub content_in : List ℕ → Content
content_in bytes = unwrap_or (result_ok (read bytes)) no_content

-- a content's snapshot is so long, and its records take so many bytes
pub record IsMeasured (content : Content) (snapshot_len bytes : ℕ) : Type 0 where
  pub snapshot : length content.snapshot ≡ snapshot_len
  pub records : records_len content.records ≡ bytes

-- the one of two values that stands at a place
abbrev pub at_place : {D : Type 0} → Bool → D → D → D
at_place swapped here there = if swapped then there else here

-- The file in use is settled, and its closing gate stands at this offset: what follows is free. The other doesn't count beside it.
pub record IsInUse (here there : List ℕ) (end layout generation base count : ℕ) : Type 0 where
  pub file : Content
  pub is_file : IsFile here file
  pub ends : end + 1 ≤ length here
  pub gate : length (spelling file) ≡ end
  pub laid : file.layout ≡ layout
  pub numbered : file.generation ≡ generation
  pub before : file.base ≡ base
  pub counted : length file.records ≡ count
  pub other : IsBelow file.generation there

pub record IsKept (here there : List ℕ) (here_done there_done : List Change) (end layout generation base count : ℕ) : Type 0 where
  pub here_settled : window here_done ≡ settled here
  pub there_settled : window there_done ≡ settled there
  pub in_use : IsInUse here there end layout generation base count
