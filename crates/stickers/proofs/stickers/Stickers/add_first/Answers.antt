use Rattle.std.proofs.Common.{◌≡◌, is_some, [], false, refl, arith}
use Rattle.stickers.specs.Sticker.{stickers_of, value_at}
use Rattle.stickers.proofs.Counted.{counted_new, empty_absent}
use Rattle.stickers.proofs.stickers.Stickers.add_first.Goals as goal

pub invariant_of-self-2 : goal.invariant_of-self-2
invariant_of-self-2 c =
    let room = rw (← c.self.view_is) at c.requires.room in
    let empty : stickers_of c.self.inside.songs c.args.uri.now ≡ [] = rw c.self.view_is c.requires.empty in
    let absent : is_some (value_at c.self.inside.songs c.args.uri.now c.args.name.now) ≡ false =
    rw (empty_absent c.self.inside.songs c.args.uri.now c.args.name.now empty) refl in
    rw (c.in_ok-set_first.ensures.ok, c.in_ok-name.ensures.ok)
    (counted_new _ _ _ _ _ c.self.invariant
    (record { good_uri = c.requires.form; good_name = room.good; good_value = c.as_str-form.ensures.form }) absent
    (omega (arith, room.few absent, c.self.invariant.counted)))
