use Rattle.std.proofs.Common.{◌≡◌, ◌++◌}
use Rattle.stickers.specs.ByName.{by_name}
use Rattle.stickers.proofs.copying.clone_values.Given as goal

-- what is copied so far, and what is left
abbrev pub invariant-loop-name : goal.invariant-loop-name
invariant-loop-name l = by_name l.copy.entries ++ by_name l.name-iterator ≡ by_name l.values.entries
