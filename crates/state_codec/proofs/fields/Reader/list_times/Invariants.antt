use Rattle.std.proofs.Common.{◌≡◌, ◌-◌, [], length}
use Rattle.state_codec.specs.Items.{items_at}
use Rattle.state_codec.specs.ReadingTimes.{time_at}
use Rattle.state_codec.proofs.fields.Reader.list_times.Given as goal

abbrev pub invariant-loop-i : goal.invariant-loop-i
invariant-loop-i l =
    (items_at (λ known. time_at) (l.count - l._i) l.times l.self.rest.now ≡ items_at (λ known. time_at) l.count [] l.fn.self.rest.now)
    × (length l.times ≡ l._i)
