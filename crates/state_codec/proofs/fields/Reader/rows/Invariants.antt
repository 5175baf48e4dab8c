use Rattle.std.proofs.Common.{◌≡◌, ◌-◌, [], length}
use Rattle.state_codec.specs.Items.{items_at}
use Rattle.state_codec.specs.ReadingRows.{row_at}
use Rattle.state_codec.specs.ReadingSaved.{next_uri_at}
use Rattle.state_codec.proofs.fields.Reader.rows.Given as goal

abbrev pub invariant-loop-i : goal.invariant-loop-i
invariant-loop-i l = (items_at (λ known. row_at l.profile (next_uri_at known)) (l.count - l._i) l.songs l.self.rest.now
    ≡ items_at (λ known. row_at l.profile (next_uri_at known)) l.count [] l.fn.self.rest.now) × (length l.songs ≡ l._i)
