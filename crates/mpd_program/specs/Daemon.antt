-- How the program ends after a daemon.
use Rattle.std.specs.Prelude.{Result, Ok, Err}
use Rattle.mpd_program.specs.declared.console.Status.TheVariants as statuses
use Rattle.mpd_program.specs.declared.exit.Exit.{Exit}
use Rattle.mpd_program.specs.declared.exit.Exit.TheVariants.{CannotListen, Ended}
use Rattle.mpd_server.specs.declared.ending.ServeStatus.{ServeStatus}
use Rattle.mpd_server.specs.declared.ending.ServeStatus.TheVariants.{Killed, JournalRefused, NoThread, DiskFault}

abbrev pub exit_of_daemon : ServeStatus → Result (Unit {0}) Exit
exit_of_daemon Killed = Ok tt
exit_of_daemon NoThread = Err CannotListen
exit_of_daemon (JournalRefused number) = Err (Ended (statuses.JournalRefused number))
exit_of_daemon DiskFault = Err (Ended statuses.DiskFault)
