use Rattle.std.proofs.Common.{◌≡◌, ◌++◌, map}
use Rattle.std.specs.String.{string_bytes}
use Rattle.std.specs.Map.{keys_of}
use Rattle.song_db.proofs.value_rows.ValueRows.texts.Given as goal

-- the values so far, and those that are left
abbrev pub invariant-loop-value : goal.invariant-loop-value
invariant-loop-value l = map (λ text. text.now) l.texts.items ++ map string_bytes l.value-iterator ≡ keys_of l.self
