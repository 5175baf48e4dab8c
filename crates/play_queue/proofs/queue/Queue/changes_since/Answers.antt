use Rattle.std.proofs.Common.{◌≡◌, arith}
use Rattle.play_queue.specs.Latest.{later_than}
use Rattle.play_queue.specs.Queue.{QueueState, changed_since}
use Rattle.play_queue.proofs.BlockStamps.{changed-later}
use Rattle.play_queue.proofs.queue.Queue.changes_since.Goals as goal
use Rattle.play_queue.proofs.queue.Queue.changes_since.Goals.{then-all, else-all}

pub returns : goal.returns
returns c =
    let q : QueueState = record {
      entries = c.self.inside.entries;
      version = c.self.inside.version;
      next_id =
          c.self.inside.next_id;
    } in
    let version = c.args.version in
    let found : later_than c.if-all.later_than 0 q.entries ≡ changed_since q version = elim c.if-all.branch [
      | then-all w ↦ changed-later q version c.if-all.later_than c.self.invariant (λ ahead. w.later_than-is)
          (λ behind. absurd (omega (arith, w.if-all.true)))
      | else-all w ↦ changed-later q version c.if-all.later_than c.self.invariant (λ ahead. absurd (omega (arith, w.if-all.false)))
          (λ behind. w.later_than-is)
    ] in
    rw (← c.self.view_is, ← found) c.later_than.ensures
