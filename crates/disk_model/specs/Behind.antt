-- What is done behind an offset.
use Rattle.std.specs.Prelude.{ℕ, ◌≤◌, List, [], ◌∷◌}
use Rattle.disk_model.specs.History.{Change, Wrote, CutTo, Synced}

-- each of these changes is a write or a cut that leaves alone what stands before this offset
abbrev pub IsBehind : ℕ → List Change → Type 0
IsBehind k [] = Unit {0}
IsBehind k (Wrote at count ∷ changes) = (k ≤ at) × IsBehind k changes
IsBehind k (CutTo len ∷ changes) = (k ≤ len) × IsBehind k changes
IsBehind k (Synced bytes ∷ changes) = ⊥
