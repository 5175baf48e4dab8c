-- Things under texts, rising by the texts' bytes.
use Rattle.std.specs.Prelude.{◌≡◌, ℕ, ◌<◌, ◌≤◌, true, false, suc, List, [], ◌∷◌, ◌++◌, length, take, drop}
use Rattle.std.specs.declared.cmp.Ordering.{Ordering}
use Rattle.std.specs.Ordering.{nat_cmp, is_lt, match_ordering}
use Rattle.std.specs.Cmp.Lexicographic.{slice_cmp}
use Rattle.std.specs.List.Sorted.{IsStrictlySortedBy}

abbrev pub by_text : {X : Type 0} → (X → List ℕ) → X → X → Ordering
by_text text a b = slice_cmp nat_cmp (text a) (text b)

-- each text stands before the later ones, so none comes twice
abbrev pub IsRising : {X : Type 0} → (X → List ℕ) → List X → Type 0
IsRising text xs = IsStrictlySortedBy (by_text text) xs

-- what stands under a text gives way to something new
abbrev pub replaced : {X : Type 0} → (X → List ℕ) → List ℕ → List X → List X → List X
replaced text key new [] = new
replaced text key new (x ∷ xs) = match_ordering (slice_cmp nat_cmp key (text x)) (new ++ x ∷ xs) (new ++ xs) (x ∷ replaced text key new xs)

-- before the key, and not before it
abbrev pub IsBefore : {X : Type 0} → (X → List ℕ) → List ℕ → X → Type 0
IsBefore text key x = is_lt (slice_cmp nat_cmp (text x) key) ≡ true

abbrev pub IsNotBefore : {X : Type 0} → (X → List ℕ) → List ℕ → X → Type 0
IsNotBefore text key x = is_lt (slice_cmp nat_cmp (text x) key) ≡ false

-- the key's own place
pub record IsPlaceOf {X : Type 0} (text : X → List ℕ) (key : List ℕ) (xs : List X) (at : ℕ) : Type 0 where
  pub within : at < length xs
  pub gives_way : (new : List X) → replaced text key new xs ≡ take at xs ++ (new ++ drop (suc at) xs)

-- the place that the key would have
pub record IsPlaceFor {X : Type 0} (text : X → List ℕ) (key : List ℕ) (xs : List X) (at : ℕ) : Type 0 where
  pub within : at ≤ length xs
  pub gives_way : (new : List X) → replaced text key new xs ≡ take at xs ++ (new ++ drop at xs)
