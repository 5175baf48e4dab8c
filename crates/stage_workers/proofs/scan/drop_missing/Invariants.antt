use Rattle.stage_workers.specs.Working.{GoesOn}
use Rattle.stage_workers.proofs.scan.drop_missing.Given as goal

abbrev pub invariant-loop-drops : goal.invariant-loop-drops
invariant-loop-drops g l = GoesOn l.initial.pass l.pass
