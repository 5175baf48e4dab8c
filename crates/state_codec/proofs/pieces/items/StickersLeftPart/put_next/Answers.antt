use Rattle.std.proofs.Common.{◌≡◌, ◌+◌, ◌∷◌, ◌++◌, ℕ, List, [], length, vec_len, vec_capacity, unwrap_or, sym, ap, subst, ◌∙◌, arith}
use Rattle.std.specs.Global.{Vec}
use Rattle.std.specs.List.{AllByRecursion, flat_map}
use Rattle.stickers.specs.Sticker.{Sticker, flat, in_song, sticker}
use Rattle.state_codec.specs.Pieces.{IsStickerItem, stickers_in}
use Rattle.state_codec.specs.Spelling.{sticker_bytes}
use Rattle.state_codec.proofs.PieceLaws.{both_joined}
use Rattle.state_codec.proofs.SnapshotLaws.{both_parts, one_more}
use Rattle.state_codec.proofs.pieces.items.StickersLeftPart.put_next.Goals as goal

pub invariant_of-self : goal.invariant_of-self
invariant_of-self c =
    let parts = both_parts IsStickerItem (in_song (c.self.inside.uri.now, unwrap_or c.self.inside.values [])) (flat c.self.inside.songs)
    c.self.invariant in
    both_joined IsStickerItem (in_song (c.self.inside.uri.now, unwrap_or c.put_of_song.new.values [])) (flat c.self.inside.songs)
    c.put_of_song.ensures.items parts.1

pub put_sticker-requires-clause-room : goal.put_sticker-requires-clause-room
put_sticker-requires-clause-room c =
    let s : Sticker = sticker c.in-Some.begun.uri.now (c.in-Some.begun.name.now, c.in-Some.begun.value.now) in
    let rest = in_song (c.in-Some.begun.uri.now, c.in-Some.begun.values) ++ flat c.next_song.new.songs in
    let first : flat c.self.inside.songs ≡ s ∷ rest = c.in-Some.ensures in
    let none = c.put_of_song.ensures.none c.if-put_of_song.false in
    let all : stickers_in c.self.inside.uri.now c.self.inside.values c.self.inside.songs ≡ s ∷ rest =
    ap (λ (l : List Sticker). l ++ flat c.self.inside.songs) none.0 ∙ first in
    let long : length c.args.self.now ≡ length (sticker_bytes s) + length (flat_map sticker_bytes rest) =
    ap (λ (l : List ℕ). length l) (sym c.self.view_is) ∙ ap (λ (l : List Sticker). length (flat_map sticker_bytes l)) all
    ∙ one_more sticker_bytes s rest in
    let item = (subst (λ (l : List Sticker). AllByRecursion IsStickerItem l) all c.self.invariant).0 in
    let still = c.put_of_song.ensures.same c.if-put_of_song.false in
    let text : c.as_str.result.now ≡ c.in-Some.begun.value.now = c.as_str.ensures.text in
    rw text (omega (
      arith,
      c.requires,
      long,
      item.fits,
      ap (λ (v : Vec ℕ). vec_len v) still,
      ap (λ (v : Vec ℕ). vec_capacity v) still,
    ))
