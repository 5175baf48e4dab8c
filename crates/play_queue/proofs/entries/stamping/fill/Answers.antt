use Rattle.std.proofs.Common.{get_or, arith}
use Rattle.std.proofs.lemmas.List.{get_or_default}
use Rattle.std.proofs.lemmas.List.Edits.{map_over_more}
use Rattle.play_queue.proofs.entries.stamping.fill.Goals as goal

pub loop-one-preserved : goal.loop-one-preserved
loop-one-preserved c =
    let now = c.loop-one.stamps in
    let i = c.loop-one.one-index in
    map_over_more (λ _. c.args.stamp) c.args.stamps.now now i (get_or now i 0) (omega arith) c.loop-one.invariant
    (get_or_default now i 0 (get_or now i 0) (omega arith))
