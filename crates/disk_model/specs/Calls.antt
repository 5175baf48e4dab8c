-- What the calls of a disk do.
use Rattle.std.specs.Prelude.{◌≡◌, ◌⊎◌, ℕ, ◌+◌, List, ◌∷◌, ◌++◌, length, take, drop}
use Rattle.disk_model.specs.History.{Change}

-- the old bytes with these at this offset
abbrev pub overwritten : List ℕ → ℕ → List ℕ → List ℕ
overwritten old at bytes = take at old ++ bytes ++ drop (at + length bytes) old

-- the history is as it was, or the change counts as made
abbrev pub IsSameOrAdds : Change → List Change → List Change → Type 0
IsSameOrAdds change old new = (new ≡ old) ⊎ (new ≡ change ∷ old)

-- A write or a cut that failed counts as made. One of which nothing at all was done may be left out: whatever a crash
-- leaves without it, a crash may leave with it.
abbrev pub IsMadeOrNothing : Change → List Change → List Change → List ℕ → List ℕ → Type 0
IsMadeOrNothing change old new before after = (new ≡ change ∷ old) ⊎ ((new ≡ old) × (after ≡ before))
