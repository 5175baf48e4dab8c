use Rattle.std.proofs.Common.{◌≡◌, ◌-◌, [], length}
use Rattle.state_codec.specs.Items.{items_at}
use Rattle.state_codec.specs.ReadingRows.{next_text_at}
use Rattle.state_codec.proofs.fields.Reader.text_list.Given as goal

abbrev pub invariant-loop-i : goal.invariant-loop-i
invariant-loop-i l = (items_at next_text_at (l.count - l._i) l.tags l.self.rest.now ≡ items_at next_text_at l.count [] l.fn.self.rest.now)
    × (length l.tags ≡ l._i)
