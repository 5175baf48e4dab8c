-- Row numbers and ranges of positions as ops have them: numbers of 32 bits, and no more of them than such a number counts.
use Rattle.std.specs.Prelude.{ℕ, ◌≤◌, Bool, ◌&&◌, nat_le, List, length}
use Rattle.std.specs.List.{All, list_all}

-- the greatest number of 32 bits
abbrev pub MAX_COUNT : ℕ
MAX_COUNT = 4294967295

abbrev pub are_few : {A : Type 0} → List A → Bool
are_few xs = nat_le (length xs) MAX_COUNT

pub record AreRowNumbers (numbers : List ℕ) : Type 0 where
  pub few : length numbers ≤ MAX_COUNT
  pub each : All (λ number. number ≤ MAX_COUNT) numbers

abbrev pub is_range : ℕ × ℕ → Bool
is_range range = nat_le range.0 MAX_COUNT && nat_le range.1 MAX_COUNT

abbrev pub are_ranges : List (ℕ × ℕ) → Bool
are_ranges ranges = are_few ranges && list_all is_range ranges

pub record AreOpRanges (ranges : List (ℕ × ℕ)) : Type 0 where
  pub few : length ranges ≤ MAX_COUNT
  pub each : All (λ range. (range.0 ≤ MAX_COUNT) × (range.1 ≤ MAX_COUNT)) ranges
