use Rattle.play_queue.proofs.Bounds.{list-prioritized}
use Rattle.play_queue.proofs.entry_list.EntryList.prioritize.Goals as goal

pub invariant_of-self : goal.invariant_of-self
invariant_of-self c =
    let later = c.prioritize.new.latest in
    rw (c.prioritize.ensures.entries)
    (list-prioritized later c.args.version c.args.priority c.args.ranges.now c.self.inside.entries c.self.invariant.0
    c.prioritize.ensures.begun
    (λ other. rw (c.prioritize.ensures.entries) at (c.prioritize.ensures.raised other c.self.invariant.1)))
