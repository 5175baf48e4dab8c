-- The refusals of a journal.
use Rattle.std.specs.Prelude.{ℕ}
use Rattle.play_journal.specs.declared.refusal.JournalError.{JournalError}
use Rattle.play_journal.specs.declared.refusal.JournalError.TheVariants.{NotEmpty, NoJournal, Damaged, DiskFault, NoMemory, TooLong}
use Rattle.play_journal.specs.declared.refusal.JournalError.TheVariants.{NumbersSpent, OldLayout}

abbrev pub number_of : JournalError → ℕ
number_of NotEmpty = 3
number_of NoJournal = 4
number_of (Damaged offset) = 5
number_of DiskFault = 6
number_of NoMemory = 7
number_of TooLong = 8
number_of NumbersSpent = 49
number_of OldLayout = 50

-- what each call refuses with
abbrev pub IsRefusalOfCreate : JournalError → Type 0
IsRefusalOfCreate NotEmpty = Unit {0}
IsRefusalOfCreate NoJournal = ⊥
IsRefusalOfCreate (Damaged offset) = ⊥
IsRefusalOfCreate DiskFault = Unit {0}
IsRefusalOfCreate NoMemory = Unit {0}
IsRefusalOfCreate TooLong = Unit {0}
IsRefusalOfCreate NumbersSpent = ⊥
IsRefusalOfCreate OldLayout = ⊥

abbrev pub IsRefusalOfOpen : JournalError → Type 0
IsRefusalOfOpen NotEmpty = ⊥
IsRefusalOfOpen NoJournal = Unit {0}
IsRefusalOfOpen (Damaged offset) = Unit {0}
IsRefusalOfOpen DiskFault = Unit {0}
IsRefusalOfOpen NoMemory = Unit {0}
IsRefusalOfOpen TooLong = ⊥
IsRefusalOfOpen NumbersSpent = ⊥
IsRefusalOfOpen OldLayout = ⊥

abbrev pub IsRefusalOfAppend : JournalError → Type 0
IsRefusalOfAppend NotEmpty = ⊥
IsRefusalOfAppend NoJournal = ⊥
IsRefusalOfAppend (Damaged offset) = ⊥
IsRefusalOfAppend DiskFault = Unit {0}
IsRefusalOfAppend NoMemory = ⊥
IsRefusalOfAppend TooLong = Unit {0}
IsRefusalOfAppend NumbersSpent = Unit {0}
IsRefusalOfAppend OldLayout = Unit {0}

abbrev pub IsRefusalOfAppendAll : JournalError → Type 0
IsRefusalOfAppendAll NotEmpty = ⊥
IsRefusalOfAppendAll NoJournal = ⊥
IsRefusalOfAppendAll (Damaged offset) = ⊥
IsRefusalOfAppendAll DiskFault = Unit {0}
IsRefusalOfAppendAll NoMemory = ⊥
IsRefusalOfAppendAll TooLong = ⊥
IsRefusalOfAppendAll NumbersSpent = Unit {0}
IsRefusalOfAppendAll OldLayout = Unit {0}

abbrev pub IsRefusalOfCheckpoint : JournalError → Type 0
IsRefusalOfCheckpoint NotEmpty = ⊥
IsRefusalOfCheckpoint NoJournal = ⊥
IsRefusalOfCheckpoint (Damaged offset) = ⊥
IsRefusalOfCheckpoint DiskFault = Unit {0}
IsRefusalOfCheckpoint NoMemory = ⊥
IsRefusalOfCheckpoint TooLong = Unit {0}
IsRefusalOfCheckpoint NumbersSpent = Unit {0}
IsRefusalOfCheckpoint OldLayout = ⊥
