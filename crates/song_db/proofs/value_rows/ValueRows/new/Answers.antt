use Rattle.std.proofs.Common.{arith}
use Rattle.song_db.proofs.GroupMaps.{values_rise}
use Rattle.song_db.proofs.value_rows.ValueRows.new.Goals as goal

pub invariant_of-result : goal.invariant_of-result
invariant_of-result c = record {
  rising = values_rise _ c.new.ensures.ordered;
  each = rw c.new.ensures.empty (λ k d below. absurd (omega arith));
}
