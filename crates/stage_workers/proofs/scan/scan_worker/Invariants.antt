use Rattle.stage_workers.specs.Working.{GoesOn}
use Rattle.stage_workers.proofs.scan.scan_worker.Given as goal

abbrev pub invariant-loop : goal.invariant-loop
invariant-loop g l = GoesOn l.initial.pass l.pass
