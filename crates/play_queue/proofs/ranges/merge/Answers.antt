use Rattle.std.proofs.Common.{◌≡◌, get_or, max, arith, rules}
use Rattle.play_queue.proofs.Merged.{grow_more, push_more}
use Rattle.play_queue.proofs.ranges.merge.Goals as goal
use Rattle.play_queue.proofs.ranges.merge.Goals.{then-range-end, else-range-end+in_ok-push_some}

pub loop-range-preserved : goal.loop-range-preserved
loop-range-preserved c = elim c.if-range-end.branch [
  | then-range-end w ↦ record {
    covers = λ at.
        let later : w.max-end.result ≡ max c.loop-range.end (get_or c.args.sorted.now c.loop-range.range-index (0, 0)).1 = search rules in
        rw (w.merged-is, w.start-is, w.end-is, later)
        (grow_more c.args.sorted.now c.loop-range.merged.items c.loop-range.start c.loop-range.end c.loop-range.range-index
        at (0, 0) c.loop-range-test.true (c.loop-range.invariant.low c.loop-range.range-index (omega arith) c.loop-range-test.true)
        w.if-range-end.true (c.loop-range.invariant.covers at));
    low = λ k above within. rw w.start-is (c.loop-range.invariant.low k (omega arith) within);
    some = rw w.merged-is c.loop-range.invariant.some;
  }
  | else-range-end+in_ok-push_some w ↦ record {
    covers = λ at. rw (w.start-is, w.end-is)
        (push_more c.args.sorted.now c.loop-range.merged.items c.if-range-end.merged.items c.loop-range.start c.loop-range.end
        c.loop-range.range-index at (0, 0) c.loop-range-test.true (rw w.merged-is (w.in_ok-push_some.ensures.positions at))
        (c.loop-range.invariant.covers at));
    low = λ k above within. rw w.start-is (c.requires c.loop-range.range-index k (0, 0) (omega arith) within);
    some = rw w.merged-is (w.in_ok-push_some.ensures.some c.loop-range.invariant.some);
  }
]
