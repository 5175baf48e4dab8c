-- The refusals of a live stage.
use Rattle.std.specs.Prelude.{◌≡◌, ◌≢◌, ◌⊎◌, ℕ, List, true, false, Ok, Err}
use Rattle.play_journal.specs.declared.refusal.JournalError.{JournalError}
use Rattle.play_journal.specs.declared.refusal.JournalError.TheVariants as journal
use Rattle.play_journal.specs.Content.{Content}
use Rattle.play_journal.specs.JournalState.{JournalState}
use Rattle.play_journal.specs.Pair.{reading}
use Rattle.profile.specs.declared.profile.Profile.{Profile}
use Rattle.state_codec.specs.Layout.{written_layout}
use Rattle.live_stage.specs.declared.refusal.LiveError.{LiveError}
use Rattle.live_stage.specs.declared.refusal.LiveError.TheVariants as turns
use Rattle.live_stage.specs.declared.refusal.StartError.{StartError}
use Rattle.live_stage.specs.declared.refusal.StartError.TheVariants.{NotEmpty, NoJournal, Damaged, NoMemory, NumbersSpent, Broken}
use Rattle.live_stage.specs.Found.{content_reading, is_read}
use Rattle.live_stage.specs.Numbers.{greatest}

abbrev pub number_of : LiveError → ℕ
number_of turns.Broken = 42
number_of turns.NoMemory = 43
number_of turns.NumbersSpent = 49

abbrev pub start_number_of : StartError → ℕ
start_number_of NotEmpty = 3
start_number_of NoJournal = 4
start_number_of (Damaged offset) = 5
start_number_of NoMemory = 7
start_number_of NumbersSpent = 49
start_number_of Broken = 42

-- what `create` refuses with
abbrev pub IsRefusalOfCreate : StartError → Type 0
IsRefusalOfCreate NotEmpty = Unit {0}
IsRefusalOfCreate NoJournal = ⊥
IsRefusalOfCreate (Damaged offset) = ⊥
IsRefusalOfCreate NoMemory = Unit {0}
IsRefusalOfCreate NumbersSpent = ⊥
IsRefusalOfCreate Broken = Unit {0}

-- what `open` refuses with
abbrev pub IsRefusalOfOpen : StartError → Type 0
IsRefusalOfOpen NotEmpty = ⊥
IsRefusalOfOpen NoJournal = Unit {0}
IsRefusalOfOpen (Damaged offset) = Unit {0}
IsRefusalOfOpen NoMemory = Unit {0}
IsRefusalOfOpen NumbersSpent = Unit {0}
IsRefusalOfOpen Broken = Unit {0}

-- What bringing a journal to the layout that is written is refused with: its layout is another one and its generation has no next
-- one, or a disk fails.
abbrev pub IsRefusalOfMigration : {D : Type 0} → Profile → JournalState D → StartError → Type 0
IsRefusalOfMigration profile journal NotEmpty = ⊥
IsRefusalOfMigration profile journal NoJournal = ⊥
IsRefusalOfMigration profile journal (Damaged offset) = ⊥
IsRefusalOfMigration profile journal NoMemory = ⊥
IsRefusalOfMigration profile journal NumbersSpent = (journal.layout ≢ written_layout profile) × (journal.generation ≡ greatest)
IsRefusalOfMigration profile journal Broken = Unit {0}

-- the files are a journal of a layout that is read, whose content stands for no state, for this reason at this offset
pub record IsBadContent (profile : Profile) (a b : List ℕ) (offset : ℕ) : Type 0 where
  pub content : Content
  pub read : reading a b ≡ Ok content
  pub known : is_read profile content.layout ≡ true
  pub bad : content_reading content ≡ Err offset

-- the offset of the layout in a file
abbrev pub layout_at : ℕ
layout_at = 8

-- The files are a journal of a layout that isn't read under this profile: of one behind that which it writes. That is told by the offset
-- of the layout.
pub record IsUnreadLayout (profile : Profile) (a b : List ℕ) (offset : ℕ) : Type 0 where
  pub content : Content
  pub read : reading a b ≡ Ok content
  pub unread : is_read profile content.layout ≡ false
  pub at : offset ≡ layout_at

-- the files are a journal of another layout than the one that is written, whose generation has no next one
pub record IsLastOfOldLayout (profile : Profile) (a b : List ℕ) : Type 0 where
  pub content : Content
  pub read : reading a b ≡ Ok content
  pub old : content.layout ≢ written_layout profile
  pub last : content.generation ≡ greatest

-- the files are wrong in this way, or the call gave up before it knew
abbrev pub IsCause : Profile → List ℕ → List ℕ → StartError → Type 0
IsCause profile a b NotEmpty = ⊥
IsCause profile a b NoJournal = reading a b ≡ Err journal.NoJournal
IsCause profile a b (Damaged offset) = (reading a b ≡ Err (journal.Damaged offset)) ⊎ (IsBadContent profile a b offset ⊎ IsUnreadLayout profile a b offset)
IsCause profile a b NoMemory = Unit {0}
IsCause profile a b NumbersSpent = IsLastOfOldLayout profile a b
IsCause profile a b Broken = Unit {0}

-- a refusal of the journal, as a stage answers it; over honest disks the last three don't come when it is made or opened
abbrev pub start_error : JournalError → StartError
start_error journal.NotEmpty = NotEmpty
start_error journal.NoJournal = NoJournal
start_error (journal.Damaged offset) = Damaged offset
start_error journal.DiskFault = Broken
start_error journal.NoMemory = NoMemory
start_error journal.TooLong = Broken
start_error journal.NumbersSpent = Broken
start_error journal.OldLayout = Broken
