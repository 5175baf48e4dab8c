use Rattle.std.proofs.Common.{◌≡◌, [], get_or, arith}
use Rattle.std.proofs.lemmas.Bool.{lt-ltb, le-ltb}
use Rattle.std.proofs.lemmas.List.{get_or_default}
use Rattle.play_queue.specs.declared.entry.Entry.{Entry}
use Rattle.play_queue.proofs.BlockStamps.{later-step}
use Rattle.play_queue.proofs.latest.push_later.Goals as goal
use Rattle.play_queue.proofs.latest.push_later.Goals.{then-version-stamp+in_ok-push, else-version-stamp}

-- one more entry is looked at
pub loop-at-preserved : goal.loop-at-preserved
loop-at-preserved c =
    let d : Entry = record { id = 0; uri = []; priority = 0; stamp = 0 } in
    let entry : Entry = get_or c.args.entries.now c.loop-at.at d in
    let stamp : c.stamp.result ≡ entry.stamp = c.stamp.ensures d in
    let step = later-step c.args.version c.args.start c.loop-at.at c.args.entries.now c.args.positions.now.items c.loop-at.positions.items
    entry (omega arith) (omega arith) (get_or_default c.args.entries.now c.loop-at.at d entry (omega arith)) c.loop-at.invariant in
    elim c.if-version-stamp.branch [
      | then-version-stamp+in_ok-push w ↦
          rw (w.positions-is, w.in_ok-push.ensures.items)
          (rw (lt-ltb c.args.version entry.stamp (omega (arith, stamp, w.if-version-stamp.true))) at step)
      | else-version-stamp w ↦ rw w.positions-is (rw (le-ltb c.args.version entry.stamp (omega (arith, stamp, w.if-version-stamp.false))) at step)
    ]
