use Rattle.std.proofs.Common.{◌≡◌, true, is_some, arith}
use Rattle.std.proofs.lemmas.Grind.{common_steps}
use Rattle.stickers.specs.Sticker.{value_at}
use Rattle.stickers.proofs.Counted.{counted_without_sticker}
use Rattle.stickers.proofs.stickers.Stickers.delete.Goals as goal

pub invariant_of-self : goal.invariant_of-self
invariant_of-self c =
    let present : is_some (value_at c.self.inside.songs c.args.uri.now c.args.name.now) ≡ true = grind (arith, common_steps) in
    rw (c.drop_empty_song.ensures, c.remove_value.ensures) (counted_without_sticker _ _ _ _ c.self.invariant present)
