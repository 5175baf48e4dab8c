use Rattle.std.proofs.Common.{◌≡◌, ℕ, true, nat_eq, drop}
use Rattle.std.specs.HashMap.{get}
use Rattle.play_queue.proofs.Located.{is_one_of, has_id, noted_or_ahead}
use Rattle.std.specs.List.{position_from}
use Rattle.play_queue.proofs.places.places_of.Given as goal

-- each of the ids has its position noted, or its entry is ahead
abbrev pub invariant-loop-at : goal.invariant-loop-at
invariant-loop-at l = (id : ℕ) → is_one_of l.ids id ≡ true
    → noted_or_ahead (get nat_eq l.places id) l.at (drop l.at l.entries) id ≡ position_from (has_id id) 0 l.entries
