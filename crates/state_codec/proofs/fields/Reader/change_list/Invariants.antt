use Rattle.std.proofs.Common.{◌≡◌, ◌-◌, []}
use Rattle.state_codec.specs.Items.{items_at}
use Rattle.state_codec.specs.ReadingRows.{change_at}
use Rattle.state_codec.proofs.fields.Reader.change_list.Given as goal

abbrev pub invariant-loop-i : goal.invariant-loop-i
invariant-loop-i l = items_at (λ known. change_at l.profile) (l.count - l._i) l.changes.items l.self.rest.now
    ≡ items_at (λ known. change_at l.profile) l.count [] l.fn.self.rest.now
