use Rattle.std.proofs.Common.{arith}
use Rattle.play_queue.proofs.Near.{position_own}
use Rattle.play_queue.proofs.entries.find_between.Goals as goal

pub returns-then-ids-at-clause-found : goal.returns-then-ids-at-clause-found
returns-then-ids-at-clause-found c =
    position_own c.args.ids.now c.loop-at.at c.args.id c.requires.own_ids (omega arith) c.if-ids-at.true
