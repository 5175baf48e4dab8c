use Rattle.std.proofs.Common.{◌≡◌, true, is_some, sym, arith}
use Rattle.stored_lists.specs.Lists.{songs_of}
use Rattle.stored_lists.proofs.Counted.{counted_append}
use Rattle.stored_lists.proofs.lists.Lists.add.Goals as goal

pub invariant_of-self-then-contains : goal.invariant_of-self-then-contains
invariant_of-self-then-contains c =
    let present : is_some (songs_of c.self.inside.lists c.args.name.now) ≡ true = sym c.if-contains.ensures in
    let room = rw (← c.self.view_is) at c.in_ok-check_add.ensures.fits in
    rw c.in_ok-append.ensures.ok (counted_append _ _ _ _ _ c.self.invariant c.len-count.ensures.form present
    (omega (arith, c.len-count.ensures.count)) (omega (arith, c.len-count.ensures.count, room.few_entries, c.self.invariant.counted)))
