-- Writers called for each of some positions.
use Rattle.std.proofs.Common.{◌≡◌, ℕ, ◌+◌, ◌-◌, ◌<◌, ◌≤◌, zero, suc, add-one, List, [], ◌∷◌, length, drop, get_or}
use Rattle.std.proofs.Common.{Result, Ok, Err, IsErr, refl, ap, subst, arith}
use Rattle.std.proofs.Math.ListN.{drop_of_length-le}
use Rattle.std.proofs.Math.Seq.{drop-cons}
use Rattle.std.specs.Global.{Vec}
use Rattle.std.specs.List.{flat_map, range_with_len}
use Rattle.command_text.specs.Answer.{Adds}
use Rattle.no_memory.specs.declared.NoMemory.{NoMemory}
use Rattle.command_text.proofs.LineLoops.{Leaves, leaves_fewer, leaves_none, leaves_off}

first_left : (xs : List ℕ) (i : ℕ) → i < length xs → drop i xs ≡ get_or xs i 0 ∷ drop (i + 1) xs
first_left xs i h = rw (add-one, drop-cons xs i 0) refl

-- of a list, from an index on
module _ (lines : ℕ → List ℕ) (xs : List ℕ) (i : ℕ) (before now : Vec ℕ) (left : Leaves lines xs (drop i xs) before now) where
  pub number_next : (after : Vec ℕ) (u : Unit {0}) → i < length xs
      → Adds {A = Unit {0}} {E = NoMemory} (lines (get_or xs i 0)) (Ok u) now after
      → Leaves lines xs (drop (i + 1) xs) before after
  number_next after u h a =
      leaves_fewer lines xs (get_or xs i 0) (drop (i + 1) xs) before now after u
      (subst (λ (l : List ℕ). Leaves lines xs l before now) (first_left xs i h) left) a

  pub numbers_off : (after : Vec ℕ) (e : NoMemory) (result : Result (Unit {0}) NoMemory) → i < length xs
      → Adds {A = Unit {0}} {E = NoMemory} (lines (get_or xs i 0)) (Err e) now after → IsErr result
      → Adds (flat_map lines xs) result before after
  numbers_off after e result h a failed =
      leaves_off lines xs (get_or xs i 0) (drop (i + 1) xs) before now after e result
      (subst (λ (l : List ℕ). Leaves lines xs l before now) (first_left xs i h) left) a failed

  pub numbers_done : (u : Unit {0}) → length xs ≤ i → Adds {A = Unit {0}} {E = NoMemory} (flat_map lines xs) (Ok u) before now
  numbers_done u h =
      leaves_none lines xs before now u (subst (λ (l : List ℕ). Leaves lines xs l before now) (drop_of_length-le xs h) left)

first_of : (at end : ℕ) → at < end → range_with_len at (end - at) ≡ at ∷ range_with_len (at + 1) (end - (at + 1))
first_of at end h =
    let more : end - at ≡ suc (end - (at + 1)) = omega (arith, h) in
    ap (λ n. range_with_len at n) more

none_of : (at end : ℕ) → end ≤ at → range_with_len at (end - at) ≡ []
none_of at end h =
    let none : end - at ≡ zero = omega (arith, h) in
    ap (λ n. range_with_len at n) none

-- of numbers up to an end
module _ (lines : ℕ → List ℕ) (all : List ℕ) (at end : ℕ) (before now : Vec ℕ)
    (left : Leaves lines all (range_with_len at (end - at)) before now) where
  pub position_next : (after : Vec ℕ) (u : Unit {0}) → at < end → Adds {A = Unit {0}} {E = NoMemory} (lines at) (Ok u) now after
      → Leaves lines all (range_with_len (at + 1) (end - (at + 1))) before after
  position_next after u h a =
      leaves_fewer lines all at (range_with_len (at + 1) (end - (at + 1))) before now after u
      (subst (λ (l : List ℕ). Leaves lines all l before now) (first_of at end h) left) a

  pub positions_off : (after : Vec ℕ) (e : NoMemory) (result : Result (Unit {0}) NoMemory) → at < end
      → Adds {A = Unit {0}} {E = NoMemory} (lines at) (Err e) now after → IsErr result
      → Adds (flat_map lines all) result before after
  positions_off after e result h a failed =
      leaves_off lines all at (range_with_len (at + 1) (end - (at + 1))) before now after e result
      (subst (λ (l : List ℕ). Leaves lines all l before now) (first_of at end h) left) a failed

  pub positions_done : (u : Unit {0}) → end ≤ at → Adds {A = Unit {0}} {E = NoMemory} (flat_map lines all) (Ok u) before now
  positions_done u h =
      leaves_none lines all before now u (subst (λ (l : List ℕ). Leaves lines all l before now) (none_of at end h) left)
