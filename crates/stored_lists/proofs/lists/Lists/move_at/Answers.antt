use Rattle.std.proofs.Common.{arith}
use Rattle.stored_lists.specs.Lists.{songs_or_none}
use Rattle.stored_lists.proofs.Counted.{counted_uris, counted_with_songs, length-moved, uris-moved}
use Rattle.stored_lists.proofs.lists.Lists.move_at.Goals as goal

pub invariant_of-self : goal.invariant_of-self
invariant_of-self c =
    let fits = rw (← c.self.view_is) at c.in_ok-check_move_at.ensures.fits in
    let songs = songs_or_none c.self.inside.lists c.args.name.now in
    let same = length-moved songs c.args.from c.args.to fits.from_within fits.to_within in
    let uris = uris-moved songs c.args.from c.args.to (counted_uris _ _ _ _ c.self.invariant fits.found) fits.from_within in
    rw (c.move_one.ensures) (counted_with_songs _ _ _ _ _ _ c.self.invariant uris fits.found (omega (arith, same))
    (omega (arith, c.self.invariant.within.few_entries, c.self.invariant.counted)))
