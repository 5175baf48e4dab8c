use Rattle.std.proofs.Common.{arith}
use Rattle.stored_lists.specs.Lists.{songs_or_none}
use Rattle.stored_lists.proofs.Counted.{counted_fits, counted_uris, counted_with_songs, length-without_range, uris-without_range}
use Rattle.stored_lists.proofs.lists.Lists.remove_at.Goals as goal

pub overflow_sub-self-2 : goal.overflow_sub-self-2
overflow_sub-self-2 c =
    let fits = rw (← c.self.view_is) at c.in_ok-check_remove_at.ensures.fits in
    omega (arith, counted_fits _ _ _ _ c.self.invariant fits.found, fits.within)

pub invariant_of-self : goal.invariant_of-self
invariant_of-self c =
    let fits = rw (← c.self.view_is) at c.in_ok-check_remove_at.ensures.fits in
    let count = counted_fits _ _ _ _ c.self.invariant fits.found in
    let few = length-without_range (songs_or_none c.self.inside.lists c.args.name.now) c.args.start c.args.end fits.forward fits.within in
    let uris = uris-without_range (songs_or_none c.self.inside.lists c.args.name.now) c.args.start c.args.end
    (counted_uris _ _ _ _ c.self.invariant fits.found) in
    rw (c.remove_range.ensures) (counted_with_songs _ _ _ _ _ _ c.self.invariant uris fits.found
    (omega (arith, count, few, fits.within, fits.forward))
    (omega (arith, c.self.invariant.within.few_entries, c.self.invariant.counted)))
