use Rattle.std.proofs.Common.{sym}
use Rattle.play_queue.proofs.Where.{ruled-swapped, sound-swapped, swap-itself}
use Rattle.play_queue.proofs.Ruling.{ruled-itself}
use Rattle.play_queue.proofs.queue.Queue.swap.Goals as goal

pub returns-then-one-other-clause-ok : goal.returns-then-one-other-clause-ok
returns-then-one-other-clause-ok c =
    let old = c.self.inside.entries in
    let fits = rw (← c.self.view_is) at c.in_ok-check_swap.ensures.fits in
    rw (← c.self.view_is, c.swap-self-inside.ensures.entries, c.swap-self-inside.ensures.version)
    (ruled-swapped (record { entries = old; version = c.self.inside.version; next_id = c.self.inside.next_id }) c.args.one c.args.other
    c.self.invariant.own_ids fits.one_within fits.other_within c.if-one-other.true)

pub returns-else-one-other-clause-ok : goal.returns-else-one-other-clause-ok
returns-else-one-other-clause-ok c =
    sym (ruled-itself c.args.self.now _ (rw (c.if-one-other.false) (swap-itself c.args.self.now.entries c.args.other)))

pub invariant_of-self : goal.invariant_of-self
invariant_of-self c =
    let old = c.self.inside.entries in
    let fits = rw (← c.self.view_is) at c.in_ok-check_swap.ensures.fits in
    rw (c.swap-self-inside.ensures.entries, c.swap-self-inside.ensures.version)
    (sound-swapped (record { entries = old; version = c.self.inside.version; next_id = c.self.inside.next_id }) c.self.invariant c.args.one
    c.args.other fits.one_within fits.other_within)
