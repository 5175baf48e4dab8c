use Rattle.std.proofs.Common.{◌≡◌, true, false, is_some, arith}
use Rattle.std.proofs.lemmas.Grind.{common_steps}
use Rattle.stickers.specs.Sticker.{value_at}
use Rattle.stickers.proofs.Counted.{counted_new, counted_other}
use Rattle.stickers.proofs.stickers.Stickers.put.Goals as goal

pub invariant_of-self-then-is_new : goal.invariant_of-self-then-is_new
invariant_of-self-then-is_new c =
    let absent : is_some (value_at c.self.inside.songs c.args.uri.now c.args.name.now) ≡ false = grind (arith, common_steps) in
    let room = rw (← c.self.view_is) at c.requires.room in
    rw c.in_ok-set.ensures.ok
    (counted_new _ _ _ _ _ c.self.invariant
    (record { good_uri = c.requires.form; good_name = room.good; good_value = c.as_str-form.ensures.form }) absent
    (omega (arith, room.few absent, c.self.invariant.counted)))

pub invariant_of-self-else-is_new : goal.invariant_of-self-else-is_new
invariant_of-self-else-is_new c =
    let present : is_some (value_at c.self.inside.songs c.args.uri.now c.args.name.now) ≡ true = grind (arith, common_steps) in
    let room = rw (← c.self.view_is) at c.requires.room in
    rw c.in_ok-set.ensures.ok
    (counted_other _ _ _ _ _ c.self.invariant
    (record { good_uri = c.requires.form; good_name = room.good; good_value = c.as_str-form.ensures.form }) present)
