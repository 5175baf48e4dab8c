use Rattle.std.proofs.Common.{arith}
use Rattle.play_queue.proofs.Stamped.{anew-kept, anew-new}
use Rattle.play_queue.proofs.entries.stamping.stamp_others.Goals as goal
use Rattle.play_queue.proofs.entries.stamping.stamp_others.Goals.{then-ids-at, else-ids-at}

pub loop-at-preserved : goal.loop-at-preserved
loop-at-preserved c =
    let ids = c.args.ids.now in
    let before = c.args.before.now in
    let at = c.loop-at.at in
    elim c.if-ids-at.branch [
      | then-ids-at w ↦
          rw (w.stamps-is, c.loop-at.invariant)
          (anew-new ids before c.args.stamp c.args.stamps.now at (omega (arith, c.requires.ids)) (omega (arith, c.requires.ids, c.requires.before))
          c.requires.ids w.if-ids-at.true)
      | else-ids-at w ↦
          rw (w.stamps-is, c.loop-at.invariant)
          (anew-kept ids before c.args.stamp c.args.stamps.now at (omega (arith, c.requires.ids)) (omega (arith, c.requires.ids, c.requires.before))
          c.requires.ids w.if-ids-at.false)
    ]
