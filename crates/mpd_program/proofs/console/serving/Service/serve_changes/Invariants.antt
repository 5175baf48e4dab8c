use Rattle.std.proofs.Common.{◌≡◌, ◌-◌, ◌^◌, [], Ok}
use Rattle.mpd_program.specs.Console.{IsRunning}
use Rattle.mpd_program.specs.Serving.{Serves}
use Rattle.mpd_program.proofs.console.serving.Service.serve_changes.Given as goal

abbrev pub invariant-loop-batches : goal.invariant-loop-batches
invariant-loop-batches g l = record {
  so_far : Serves g.D.Disk.honest g.D.Disk.history g.D.Disk.faults g.W.Write.contents [] l.fn.self l.self (Ok tt);
  running : IsRunning l.job l.self.live.state.machine.job;
  waiting : l.self.live.state.machine.waiting ≡ l.fn.self.live.state.machine.waiting;
}

abbrev pub decreases-loop-batches : goal.decreases-loop-batches
decreases-loop-batches g l = 2 ^ 64 - 1 - l.batches
