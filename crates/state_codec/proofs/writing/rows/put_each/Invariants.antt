use Rattle.std.proofs.Common.{◌≡◌, ◌++◌, take, vec_capacity}
use Rattle.std.specs.List.{flat_map}
use Rattle.state_codec.specs.SpellingRows.{numbered_bytes}
use Rattle.state_codec.proofs.writing.rows.put_each.Given as goal

abbrev pub invariant-loop-at : goal.invariant-loop-at
invariant-loop-at l = (l.out.items ≡ l.fn.out.items ++ flat_map numbered_bytes (take l.at l.tags)) × (vec_capacity l.out ≡ vec_capacity l.fn.out)
