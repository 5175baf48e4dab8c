use Rattle.std.proofs.Common.{arith}
use Rattle.player_core.proofs.LeftBlock.{left_by-none}
use Rattle.player_core.proofs.removal.leave.Goals as goal

pub returns-then-count-eq0-clause-ids : goal.returns-then-count-eq0-clause-ids
returns-then-count-eq0-clause-ids c = left_by-none c.args.block c.args.dropped.now c.args.entries.now c.args.played.now.keys
    (omega (arith, c.len-count.ensures.len, c.if-count-eq0.true))
