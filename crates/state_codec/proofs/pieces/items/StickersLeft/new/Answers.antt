use Rattle.std.proofs.Common.{List, subst, sym}
use Rattle.std.specs.List.{AllByRecursion}
use Rattle.stickers.specs.Sticker.{Sticker}
use Rattle.state_codec.specs.Pieces.{IsStickerItem}
use Rattle.state_codec.proofs.PieceLaws.{sticker_items}
use Rattle.state_codec.proofs.pieces.items.StickersLeft.new.Goals as goal

pub invariant_of-result : goal.invariant_of-result
invariant_of-result c = subst (λ (l : List Sticker). AllByRecursion IsStickerItem l) (sym c.iter.ensures)
    (sticker_items c.args.stickers.now c.len-within.ensures.within)
