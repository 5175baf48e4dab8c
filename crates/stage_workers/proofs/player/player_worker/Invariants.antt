use Rattle.stage_workers.specs.Working.{GoesOn}
use Rattle.stage_workers.proofs.player.player_worker.Given as goal

abbrev pub invariant-loop : goal.invariant-loop
invariant-loop g l = GoesOn l.initial.pass l.pass
