use Rattle.std.proofs.Common.{arith}
use Rattle.stickers.proofs.Counted.{counted_without_song, fits_song}
use Rattle.stickers.proofs.stickers.Stickers.drop_uri.Goals as goal

pub overflow_sub-self : goal.overflow_sub-self
overflow_sub-self c = omega (arith, c.remove_song.ensures.count, fits_song _ _ c.args.uri.now c.self.invariant)

pub invariant_of-self : goal.invariant_of-self
invariant_of-self c =
    let fits = fits_song _ _ c.args.uri.now c.self.invariant in
    rw c.remove_song.ensures.removed (counted_without_song _ _ _ _ c.self.invariant (omega (arith, c.remove_song.ensures.count, fits)))
