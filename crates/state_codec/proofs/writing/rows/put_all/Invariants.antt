use Rattle.std.proofs.Common.{◌≡◌, ◌++◌, take, vec_capacity}
use Rattle.std.specs.List.{flat_map}
use Rattle.state_codec.specs.SpellingRows.{change_bytes}
use Rattle.state_codec.proofs.writing.rows.put_all.Given as goal

abbrev pub invariant-loop-change : goal.invariant-loop-change
invariant-loop-change l = (l.out.items ≡ l.fn.out.items ++ flat_map (change_bytes l.profile) (take l.change-index l.changes))
    × (vec_capacity l.out ≡ vec_capacity l.fn.out)
