use Rattle.std.proofs.Common.{◌∙◌, ap, is_some, arith}
use Rattle.stored_lists.proofs.Counted.{counted_fits, counted_with_songs, total_without}
use Rattle.stored_lists.proofs.Replaced.{replaced_is}
use Rattle.stored_lists.proofs.lists.Lists.replace.Goals as goal

pub overflow_sub-self : goal.overflow_sub-self
overflow_sub-self c =
    omega (arith, c.len-old.ensures.count, counted_fits _ _ _ _ c.self.invariant (rw (← c.self.view_is) at c.in_ok-get.ensures.songs))

pub invariant_of-self : goal.invariant_of-self
invariant_of-self c =
    let found = rw (← c.self.view_is) at c.in_ok-get.ensures.songs in
    let room = rw (← c.self.view_is) at c.in_ok-check_replace.ensures.fits in
    let others = total_without _ _ _ _ c.self.invariant found in
    rw c.replace.ensures (counted_with_songs _ _ _ _ _ _ c.self.invariant c.len-count.ensures.form found
    (omega (arith, c.len-count.ensures.count, c.len-old.ensures.count, others))
    (omega (arith, c.len-count.ensures.count, c.len-old.ensures.count, others, room.few_entries)))

-- it stands where it stood
pub returns-clause-anew : goal.returns-clause-anew
returns-clause-anew c =
    let found = rw (← c.self.view_is) at c.in_ok-get.ensures.songs in
    rw (← c.self.view_is) (c.replace.ensures
    ∙ replaced_is c.self.inside.lists c.args.name.now c.args.songs c.len-rising.ensures.rising (ap is_some found))
