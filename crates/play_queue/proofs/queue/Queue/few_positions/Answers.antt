use Rattle.std.proofs.Common.{get_or, sym, ◌∙◌, arith}
use Rattle.play_queue.proofs.Located.{found_more, found_none}
use Rattle.play_queue.proofs.queue.Queue.few_positions.Goals as goal

pub returns-in-None : goal.returns-in-None
returns-in-None c =
    found_none c.args.self.now.entries c.args.ids.now c.loop-wanted.positions.items c.loop-wanted.wanted-index (omega arith)
    (sym c.in-None.ensures.found) ∙ c.loop-wanted.invariant

pub loop-wanted-preserved : goal.loop-wanted-preserved
loop-wanted-preserved c =
    rw c.in_ok-push-in-Some.ensures.items
    (found_more c.args.self.now.entries c.args.ids.now c.loop-wanted.positions.items c.loop-wanted.wanted-index c.in-Some.at (omega arith)
    (sym c.in-Some.ensures.found) ∙ c.loop-wanted.invariant)
