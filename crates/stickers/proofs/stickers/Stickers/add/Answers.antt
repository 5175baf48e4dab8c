use Rattle.std.proofs.Common.{◌≡◌, None, is_some, false, refl, arith}
use Rattle.stickers.specs.Sticker.{value_at}
use Rattle.stickers.proofs.Counted.{counted_new}
use Rattle.stickers.proofs.stickers.Stickers.add.Goals as goal

pub invariant_of-self-2 : goal.invariant_of-self-2
invariant_of-self-2 c =
    let room = rw (← c.self.view_is) at c.requires.room in
    let none : value_at c.self.inside.songs c.args.uri.now c.args.name.now ≡ None = rw c.self.view_is c.requires.absent in
    let absent : is_some (value_at c.self.inside.songs c.args.uri.now c.args.name.now) ≡ false = rw none refl in
    rw c.in_ok-set.ensures.ok
    (counted_new _ _ _ _ _ c.self.invariant
    (record { good_uri = c.requires.form; good_name = room.good; good_value = c.as_str-form.ensures.form }) absent
    (omega (arith, room.few absent, c.self.invariant.counted)))
