use Rattle.std.proofs.Common.{◌≡◌, ◌-◌, [], length}
use Rattle.state_codec.specs.Items.{items_at}
use Rattle.state_codec.specs.ReadingSaved.{playlist_at}
use Rattle.state_codec.proofs.fields.Reader.playlists.Given as goal

abbrev pub invariant-loop-i : goal.invariant-loop-i
invariant-loop-i l = (items_at playlist_at (l.count - l._i) l.lists l.self.rest.now ≡ items_at playlist_at l.count [] l.fn.self.rest.now)
    × (length l.lists ≡ l._i)
