use Rattle.play_queue.proofs.BlockStamps.{RaisedTo}
use Rattle.play_queue.proofs.latest.raise_latest.Given as goal

abbrev pub invariant-loop-block : goal.invariant-loop-block
invariant-loop-block l = RaisedTo l.initial.latest l.latest l.start l.block l.stamp
