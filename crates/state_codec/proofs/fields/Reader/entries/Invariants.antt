use Rattle.std.proofs.Common.{◌≡◌, ◌-◌, [], length}
use Rattle.state_codec.specs.Items.{items_at}
use Rattle.state_codec.specs.ReadingSaved.{entry_at}
use Rattle.state_codec.proofs.fields.Reader.entries.Given as goal

abbrev pub invariant-loop-i : goal.invariant-loop-i
invariant-loop-i l = (l.queue.version ≡ l.version)
    × ((l.queue.next_id ≡ l.next_id)
    × ((items_at (entry_at l.songs l.version l.next_id) (l.count - l._i) l.queue.entries l.self.rest.now
    ≡ items_at (entry_at l.songs l.version l.next_id) l.count [] l.fn.self.rest.now) × (length l.queue.entries ≡ l._i)))
