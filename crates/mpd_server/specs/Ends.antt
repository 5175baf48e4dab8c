-- How a daemon's lives end.
use Rattle.std.specs.Prelude.{◌≡◌, ◌⊎◌, Bool, true, false, ℕ, Option, Some, None}
use Rattle.live_stage.specs.declared.refusal.StartError.{StartError}
use Rattle.live_stage.specs.declared.refusal.StartError.TheVariants.{NotEmpty, NoJournal, Damaged, NoMemory, NumbersSpent, Broken}
use Rattle.live_stage.specs.Errors.{start_number_of}
use Rattle.mpd_server.specs.declared.ending.ServeStatus.{ServeStatus}
use Rattle.mpd_server.specs.declared.ending.ServeStatus.TheVariants.{JournalRefused, DiskFault}
use Rattle.mpd_server.specs.declared.ending.LifeEnding.{LifeEnding}
use Rattle.mpd_server.specs.declared.ending.LifeEnding.TheVariants.{Faulted, Ended}

-- the number with which a journal is refused; none where a disk failed
abbrev pub refusal_number : StartError → Option ℕ
refusal_number Broken = None
refusal_number NotEmpty = Some (start_number_of NotEmpty)
refusal_number NoJournal = Some (start_number_of NoJournal)
refusal_number (Damaged offset) = Some (start_number_of (Damaged offset))
refusal_number NoMemory = Some (start_number_of NoMemory)
refusal_number NumbersSpent = Some (start_number_of NumbersSpent)

-- how a life ends whose journal was refused with this number, or in whose opening a disk failed
abbrev pub ending_unopened : Option ℕ → LifeEnding
ending_unopened None = Faulted
ending_unopened (Some number) = Ended (JournalRefused number)

-- how a life ends in which the journal was refused
abbrev pub refusal_of : StartError → LifeEnding
refusal_of error = ending_unopened (refusal_number error)

-- how a life ends whose stage came back broken or not, of a daemon that was ended already or not, and that would else have ended so
abbrev pub ending_of : Bool → Bool → ServeStatus → LifeEnding
ending_of true true status = Ended DiskFault
ending_of true false status = Faulted
ending_of false is_ended status = Ended status

-- how a daemon ends whose last life ended so
abbrev pub status_of : LifeEnding → ServeStatus
status_of Faulted = DiskFault
status_of (Ended status) = status

-- what a journal that is not opened ends the daemon with
abbrev pub IsRefusalOfStart : ServeStatus → Type 0
IsRefusalOfStart status =
    (status ≡ JournalRefused 4) ⊎ (status ≡ JournalRefused 5) ⊎ (status ≡ JournalRefused 7) ⊎ (status ≡ JournalRefused 49)
    ⊎ (status ≡ DiskFault)
