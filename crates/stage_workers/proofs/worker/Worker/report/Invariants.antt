use Rattle.std.proofs.Common.{◌≡◌}
use Rattle.stage_workers.proofs.worker.Worker.report.Given as goal

abbrev pub invariant-loop : goal.invariant-loop
invariant-loop g l = l.pass ≡ l.initial.pass
