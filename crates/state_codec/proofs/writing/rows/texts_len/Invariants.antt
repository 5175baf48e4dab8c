use Rattle.std.proofs.Common.{◌≡◌, ◌+◌, ◌*◌, ◌≤◌, length, take}
use Rattle.std.specs.List.{flat_map}
use Rattle.state_codec.specs.SpellingRows.{numbered_bytes}
use Rattle.state_codec.proofs.writing.rows.texts_len.Given as goal

abbrev pub invariant-loop-at : goal.invariant-loop-at
invariant-loop-at l = (l.len ≡ 1 + length (flat_map numbered_bytes (take l.at l.tags))) × (l.len ≤ 1 + 515 * l.at)
