use Rattle.std.proofs.Common.{◌≡◌, length, arith}
use Rattle.stickers.specs.Sticker.{stickers_of}
use Rattle.stickers.proofs.Counted.{counted_without_song, fits_song, unchanged_without_song}
use Rattle.stickers.proofs.stickers.Stickers.delete_all.Goals as goal

pub invariant_of-self : goal.invariant_of-self
invariant_of-self c =
    let none : length (stickers_of c.self.inside.songs c.args.uri.now) ≡ 0 =
    omega (arith, c.remove_song-removed.ensures.count, c.if-removed-eq0.true) in
    rw (c.remove_song-removed.ensures.removed, unchanged_without_song _ _ none) c.self.invariant

pub returns-then-removed-eq0-clause-err : goal.returns-then-removed-eq0-clause-err
returns-then-removed-eq0-clause-err c =
    let none : length (stickers_of c.self.inside.songs c.args.uri.now) ≡ 0 =
    omega (arith, c.remove_song-removed.ensures.count, c.if-removed-eq0.true) in
    rw (c.remove_song-removed.ensures.removed, unchanged_without_song _ _ none) c.self.view_is

pub overflow_sub-self : goal.overflow_sub-self
overflow_sub-self c = omega (arith, c.remove_song-removed.ensures.count, fits_song _ _ c.args.uri.now c.self.invariant)

pub invariant_of-self-2 : goal.invariant_of-self-2
invariant_of-self-2 c =
    let fits = fits_song _ _ c.args.uri.now c.self.invariant in
    rw c.remove_song-removed.ensures.removed
    (counted_without_song _ _ _ _ c.self.invariant (omega (arith, c.remove_song-removed.ensures.count, fits)))
