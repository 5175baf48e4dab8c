use Rattle.mpd_program.specs.Console.{RunsNone}
use Rattle.mpd_program.proofs.ServingLaws.{ServesRequests}
use Rattle.mpd_program.proofs.console.serving.Service.serve_requests.Given as goal

abbrev pub invariant-loop-request : goal.invariant-loop-request
invariant-loop-request g l = record {
  requests : ServesRequests g.D.Disk.honest g.D.Disk.history g.D.Disk.faults g.W.Write.contents l.fn.requests l.request-iterator
      l.fn.self l.self;
  idle : RunsNone l.self.live.state.machine.job;
}
