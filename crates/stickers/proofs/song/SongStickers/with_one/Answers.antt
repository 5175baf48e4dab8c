use Rattle.stickers.proofs.ByName.{sorted-by_name}
use Rattle.stickers.proofs.song.SongStickers.with_one.Goals as goal

pub invariant_of-song : goal.invariant_of-song
invariant_of-song c = sorted-by_name _ c.new.ensures.ordered
