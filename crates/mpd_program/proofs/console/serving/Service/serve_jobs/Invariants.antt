use Rattle.std.proofs.Common.{[], Ok}
use Rattle.mpd_program.specs.Console.{jobs_left}
use Rattle.mpd_program.specs.Serving.{Serves}
use Rattle.mpd_program.proofs.console.serving.Service.serve_jobs.Given as goal

abbrev pub invariant-jobs : goal.invariant-jobs
invariant-jobs g l = Serves g.D.Disk.honest g.D.Disk.history g.D.Disk.faults g.W.Write.contents [] l.fn.self l.self (Ok tt)

abbrev pub decreases-jobs : goal.decreases-jobs
decreases-jobs g l = jobs_left l.self.live.state.machine
