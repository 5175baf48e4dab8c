use Rattle.std.proofs.Common.{◌≡◌, ◌++◌}
use Rattle.stored_lists.proofs.named.NamedSongs.try_clone.Given as goal

-- what is copied so far, and what is left
abbrev pub invariant-loop-name : goal.invariant-loop-name
invariant-loop-name l = ((goal.iterator-loop-name).can_next l.name-iterator × (goal.iterator-loop-name).is_finite l.name-iterator)
    × (l.copy ++ l.name-iterator ≡ l.fn.self)
