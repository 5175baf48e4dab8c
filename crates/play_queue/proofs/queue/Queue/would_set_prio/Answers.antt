use Rattle.std.proofs.Common.{◌≡◌, ◌∙◌, length, sym, arith}
use Rattle.play_queue.specs.Queue.{QueueState}
use Rattle.play_queue.proofs.Merged.{merged_ranges}
use Rattle.play_queue.proofs.Prioritized.{good_ranges}
use Rattle.play_queue.proofs.Versions.{would-prio}
use Rattle.play_queue.proofs.queue.Queue.would_set_prio.Goals as goal

pub has_other-requires : goal.has_other-requires
has_other-requires c =
    let count : c.len.result ≡ length c.self.inside.entries = omega (arith, c.len.ensures) in
    let good = rw (c.as_slice.ensures, count) at (sym c.has_bad.ensures ∙ c.if-not-has_bad.true) in
    rw (c.entries.ensures) (merged_ranges c.args.ranges.now c.merged.result.now _ c.merged.ensures
    (good_ranges c.args.ranges.now _ good))

pub returns-then-not-has_bad : goal.returns-then-not-has_bad
returns-then-not-has_bad c none =
    let q : QueueState = record {
      entries = c.self.inside.entries;
      version = c.self.inside.version;
      next_id =
          c.self.inside.next_id;
    } in
    let yes = rw (c.entries.ensures) at c.has_other.ensures.yes in
    let no = rw (c.entries.ensures) at c.has_other.ensures.no in
    rw (← c.self.view_is) (would-prio q c.args.ranges.now c.merged.result.now c.args.priority c.has_other.result c.merged.ensures.same yes
    no)
