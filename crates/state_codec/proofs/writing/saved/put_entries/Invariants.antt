use Rattle.std.proofs.Common.{◌≡◌, ◌++◌, take, vec_capacity}
use Rattle.std.specs.List.{flat_map}
use Rattle.state_codec.specs.Spelling.{entry_bytes}
use Rattle.state_codec.proofs.writing.saved.put_entries.Given as goal

abbrev pub invariant-loop-at : goal.invariant-loop-at
invariant-loop-at l = (l.out.items ≡ l.fn.out.items ++ flat_map (entry_bytes l.songs) (take l.at l.entries))
    × (vec_capacity l.out ≡ vec_capacity l.fn.out)
