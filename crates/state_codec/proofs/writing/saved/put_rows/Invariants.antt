use Rattle.std.proofs.Common.{◌≡◌, ◌++◌, take, vec_capacity}
use Rattle.std.specs.List.{flat_map}
use Rattle.state_codec.specs.SpellingRows.{row_bytes}
use Rattle.state_codec.proofs.writing.saved.put_rows.Given as goal

abbrev pub invariant-loop-row : goal.invariant-loop-row
invariant-loop-row l = (l.out.items ≡ l.fn.out.items ++ flat_map (row_bytes l.profile) (take l.row-index l.rows))
    × (vec_capacity l.out ≡ vec_capacity l.fn.out)
