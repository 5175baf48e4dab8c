-- Ranges of positions, and the same positions as ranges that don't meet.
use Rattle.std.specs.Prelude.{◌≡◌, ℕ, ◌<◌, Bool, ◌&&◌, nat_lt, nat_le, List}
use Rattle.std.specs.List.{All}
use Rattle.std.specs.List.Sorted.{IsNonDecreasingBy}
use Rattle.play_queue.specs.Entries.{is_in_some}

abbrev pub is_in_range : ℕ × ℕ → ℕ → Bool
is_in_range range at = nat_le range.0 at && nat_lt at range.1

-- the starts don't fall
abbrev pub AreByStart : List (ℕ × ℕ) → Type 0
AreByStart ranges = IsNonDecreasingBy (λ range. range.0) ranges

-- the same positions lie in some range of either
abbrev pub HaveSamePositions : List (ℕ × ℕ) → List (ℕ × ℕ) → Type 0
HaveSamePositions ranges others = (at : ℕ) → is_in_some ranges at ≡ is_in_some others at

-- no range is empty
abbrev pub AreNotEmpty : List (ℕ × ℕ) → Type 0
AreNotEmpty ranges = All (λ range. range.0 < range.1) ranges

-- ranges, and others that have the same positions, none of them empty
pub record AreMerged (ranges merged : List (ℕ × ℕ)) : Type 0 where
  pub same : HaveSamePositions merged ranges
  pub some : AreNotEmpty merged
