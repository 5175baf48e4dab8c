-- The exit status of a console.
use Rattle.std.specs.Prelude.{ℕ}
use Rattle.mpd_program.specs.declared.console.Status.{Status}
use Rattle.mpd_program.specs.declared.console.Status.TheVariants.{Done, JournalRefused, DiskFault}

abbrev pub code_of : Status → ℕ
code_of Done = 0
code_of (JournalRefused number) = 2
code_of DiskFault = 3
