use Rattle.std.proofs.Common.{◌*◌, take, sym, ◌∙◌, append-nil, arith}
use Rattle.play_queue.specs.Limits.{SPAN}
use Rattle.play_queue.specs.Latest.{later_than}
use Rattle.play_queue.proofs.BlockStamps.{later-block, later-skipped}
use Rattle.play_queue.proofs.latest.later_than.Goals as goal
use Rattle.play_queue.proofs.latest.later_than.Goals.{then-version-latest+in_ok-push_later, else-version-latest}

-- one more block is looked at
pub loop-block-preserved : goal.loop-block-preserved
loop-block-preserved c =
    let version = c.args.version in
    let block = c.loop-block.block in
    let entries = c.args.entries.now in
    let front = later_than version 0 (take (block * SPAN) entries) in
    let step = later-block version block c.min-end.result entries (omega arith) (omega arith) in
    elim c.if-version-latest.branch [
      | then-version-latest+in_ok-push_later w ↦
          rw (w.positions-is, w.in_ok-push_later.ensures, c.loop-block.invariant) (sym step)
      | else-version-latest w ↦
          let none = later-skipped version block c.min-end.result entries c.args.latest.now c.requires.latest (omega arith) (omega arith)
          (omega arith) (omega arith) in
          rw w.positions-is (c.loop-block.invariant ∙ sym (step ∙ rw none (append-nil front)))
    ]
