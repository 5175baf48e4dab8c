use Rattle.std.proofs.Common.{◌≡◌, ◌-◌, [], length}
use Rattle.state_codec.specs.Items.{items_at}
use Rattle.state_codec.specs.Fields.{u32_at}
use Rattle.state_codec.proofs.fields.Reader.ids.Given as goal

abbrev pub invariant-loop-i : goal.invariant-loop-i
invariant-loop-i l =
    (items_at (λ known. u32_at) (l.count - l._i) l.ids l.self.rest.now ≡ items_at (λ known. u32_at) l.count [] l.fn.self.rest.now)
    × (length l.ids ≡ l._i)
