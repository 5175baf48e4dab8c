use Rattle.std.proofs.Common.{◌≡◌, ◌-◌, [], length}
use Rattle.state_codec.specs.Items.{items_at}
use Rattle.state_codec.specs.ReadingSaved.{last_uri, sticker_at}
use Rattle.state_codec.proofs.fields.Reader.sticker_list.Given as goal

abbrev pub invariant-loop-i : goal.invariant-loop-i
invariant-loop-i l = (l.last ≡ last_uri l.stickers)
    × ((items_at (sticker_at l.songs) (l.count - l._i) l.stickers l.self.rest.now
    ≡ items_at (sticker_at l.songs) l.count [] l.fn.self.rest.now) × (length l.stickers ≡ l._i))
