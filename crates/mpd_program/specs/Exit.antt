-- The exit status of the program.
use Rattle.std.specs.Prelude.{◌≡◌, ℕ}
use Rattle.mpd_program.specs.Status.{code_of}
use Rattle.mpd_program.specs.declared.console.Status.TheVariants.{Done, JournalRefused}
use Rattle.mpd_program.specs.declared.exit.Exit.{Exit}
use Rattle.mpd_program.specs.declared.exit.Exit.TheVariants.{BadArguments, BadConfiguration, CannotListen, NotWhole, Ended}

abbrev pub exit_code : Exit → ℕ
exit_code BadArguments = 1
exit_code BadConfiguration = 1
exit_code CannotListen = 1
exit_code NotWhole = 4
exit_code (Ended status) = code_of status

-- it ended well, and has nothing to say
abbrev pub IsSilent : Exit → Type 0
IsSilent exit = exit ≡ Ended Done

-- memory was refused before the task was begun
abbrev pub no_memory : Exit
no_memory = Ended (JournalRefused 7)
