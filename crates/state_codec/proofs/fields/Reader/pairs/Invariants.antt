use Rattle.std.proofs.Common.{◌≡◌, ◌-◌, []}
use Rattle.std.specs.Prelude.{IsTrue}
use Rattle.std.specs.List.{list_all}
use Rattle.state_codec.specs.Numbers.{is_range}
use Rattle.state_codec.specs.Items.{items_at}
use Rattle.state_codec.specs.Fields.{pair_at}
use Rattle.state_codec.proofs.fields.Reader.pairs.Given as goal

abbrev pub invariant-loop-i : goal.invariant-loop-i
invariant-loop-i l = (items_at (λ known. pair_at) (l.count - l._i) l.pairs.items l.self.rest.now
    ≡ items_at (λ known. pair_at) l.count [] l.fn.self.rest.now) × IsTrue (list_all is_range l.pairs.items)
