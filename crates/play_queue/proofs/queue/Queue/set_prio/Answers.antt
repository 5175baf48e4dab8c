use Rattle.std.proofs.Common.{◌∙◌, [], sym, subst}
use Rattle.play_queue.specs.Queue.{QueueState, IsQueue}
use Rattle.play_queue.proofs.Kept.{sound-ruled}
use Rattle.play_queue.proofs.Merged.{merged_ranges, reprioritized-same}
use Rattle.play_queue.proofs.Ruling.{ruled-itself}
use Rattle.play_queue.proofs.Prioritized.{ruled-prioritized, prioritized-same, fit-prioritized}
use Rattle.play_queue.proofs.queue.Queue.set_prio.Goals as goal

pub has_other-requires : goal.has_other-requires
has_other-requires c =
    rw (c.entries.ensures) (merged_ranges c.args.ranges.now c.merged-merged.result.now _ c.merged-merged.ensures
    (rw (← c.self.view_is) at c.in_ok-check_prio.ensures.fits))

pub prioritize-self-inside-requires-clause-ranges : goal.prioritize-self-inside-requires-clause-ranges
prioritize-self-inside-requires-clause-ranges c =
    merged_ranges c.args.ranges.now c.merged-merged.result.now _ c.merged-merged.ensures
    (rw (← c.self.view_is) at c.in_ok-check_prio.ensures.fits)

pub returns-then-has_other-clause-ok : goal.returns-then-has_other-clause-ok
returns-then-has_other-clause-ok c =
    let q : QueueState = record {
      entries = c.self.inside.entries;
      version = c.self.inside.version;
      next_id =
          c.self.inside.next_id;
    } in
    let found = rw (c.entries.ensures) at c.if-has_other.ensures.yes in
    rw (
      ← c.self.view_is,
      c.prioritize-self-inside.ensures.entries,
      c.prioritize-self-inside.ensures.version,
      reprioritized-same q.version c.args.priority c.args.ranges.now c.merged-merged.result.now q.entries c.merged-merged.ensures.same,
    )
    (ruled-prioritized q c.args.ranges.now c.args.priority (
      found.0,
      found.1,
      sym (c.merged-merged.ensures.same found.0) ∙ found.2,
      found.3,
    ))

pub invariant_of-self : goal.invariant_of-self
invariant_of-self c =
    let q : QueueState = record {
      entries = c.self.inside.entries;
      version = c.self.inside.version;
      next_id =
          c.self.inside.next_id;
    } in
    let found = rw (c.entries.ensures) at c.if-has_other.ensures.yes in
    let made = ruled-prioritized q c.args.ranges.now c.args.priority (
      found.0,
      found.1,
      sym (c.merged-merged.ensures.same found.0) ∙ found.2,
      found.3,
    ) in
    rw (
      c.prioritize-self-inside.ensures.entries,
      c.prioritize-self-inside.ensures.version,
      reprioritized-same q.version c.args.priority c.args.ranges.now c.merged-merged.result.now q.entries c.merged-merged.ensures.same,
    )
    (subst IsQueue (sym made) (sound-ruled q _ [] c.self.invariant (fit-prioritized q c.args.ranges.now c.args.priority c.self.invariant)))

pub returns-else-has_other-clause-ok : goal.returns-else-has_other-clause-ok
returns-else-has_other-clause-ok c =
    let q : QueueState = record {
      entries = c.self.inside.entries;
      version = c.self.inside.version;
      next_id =
          c.self.inside.next_id;
    } in
    let none = rw (c.entries.ensures) at c.if-has_other.ensures.no in
    rw (← c.self.view_is)
    (sym (ruled-itself q _ (prioritized-same q.entries c.args.ranges.now c.args.priority
    (λ k d within is. none k d within (c.merged-merged.ensures.same k ∙ is)))))
