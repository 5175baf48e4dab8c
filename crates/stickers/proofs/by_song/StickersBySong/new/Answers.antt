use Rattle.stickers.proofs.ByName.{sorted-by_name}
use Rattle.stickers.proofs.by_song.StickersBySong.new.Goals as goal

pub invariant_of-result : goal.invariant_of-result
invariant_of-result c = sorted-by_name _ c.new.ensures.ordered
