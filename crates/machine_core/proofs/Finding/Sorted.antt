-- What is sorted, seen as something else.
use Rattle.std.proofs.Common.{◌≡◌, ℕ, ◌≤◌, Bool, true, false, List, [], ◌∷◌, ◌++◌, length, map, take, drop, refl, ap, sym, ◌∙◌}
use Rattle.std.proofs.Common.{Option, Some, None, arith}
use Rattle.std.proofs.Math.Seq.{take-append_seam}
use Rattle.std.proofs.lemmas.List.{length-map, length-drop, length-take}
use Rattle.std.specs.List.{take-map, drop-map}
use Rattle.command_text.specs.declared.range.Window.{Window}
use Rattle.filter_expr.specs.Order.{inserted, sorted, window_of}
use Rattle.machine_core.specs.Finding.{in_window}

-- what was changed in place
pub written_back : {X : Type 0} (count : ℕ) (new rest : List X) → length new ≡ count → take count (new ++ rest) ≡ new
written_back count new rest is = ap (λ n. take n (new ++ rest)) (sym is) ∙ take-append_seam new rest

seen_part : {X Y : Type 0} (view : X → Y) (start end : ℕ) (xs : List X)
    → map view (drop start (take end xs)) ≡ drop start (take end (map view xs))
seen_part view start end xs = sym (drop-map view start (take end xs)) ∙ ap (drop start) (sym (take-map view end xs))

pub seen_window : {X Y : Type 0} (view : X → Y) (start : ℕ) (end : Option ℕ) (xs : List X)
    → map view (window_of start end xs) ≡ window_of start end (map view xs)
seen_window view start None xs =
    seen_part view start (length xs) xs ∙ ap (λ n. drop start (take n (map view xs))) (sym (length-map xs view))
seen_window view start (Some end) xs = seen_part view start end xs

pub seen_part_or_all : {X Y : Type 0} (view : X → Y) (part : Option Window) (xs : List X)
    → map view (in_window part xs) ≡ in_window part (map view xs)
seen_part_or_all view None xs = refl
seen_part_or_all view (Some part) xs = seen_window view part.start part.end xs

pub window_length : {X : Type 0} (start : ℕ) (end : Option ℕ) (xs : List X) → length (window_of start end xs) ≤ length xs
window_length start None xs = omega (arith, length-drop start (take (length xs) xs), length-take (length xs) xs)
window_length start (Some end) xs = omega (arith, length-drop start (take end xs), length-take end xs)

module _ {X Y : Type 0} (view : X → Y) (before : Y → Y → Bool) where
  inserted_seen : (x : X) (xs : List X)
      → map view (inserted (λ a b. before (view a) (view b)) x xs) ≡ inserted before (view x) (map view xs)
  inserted_seen x [] = refl
  inserted_seen x (y ∷ ys) = by_cases (before (view y) (view x)) refl (inserted_seen x ys)
    where
      by_cases : (b : Bool) → before (view y) (view x) ≡ b
          → map view (inserted (λ a b. before (view a) (view b)) x ys) ≡ inserted before (view x) (map view ys)
          → map view (inserted (λ a b. before (view a) (view b)) x (y ∷ ys)) ≡ inserted before (view x) (view y ∷ map view ys)
      by_cases true is later = rw is (ap (λ zs. view y ∷ zs) later)
      by_cases false is later = rw is refl

  pub sorted_seen : (xs : List X) → map view (sorted (λ a b. before (view a) (view b)) xs) ≡ sorted before (map view xs)
  sorted_seen [] = refl
  sorted_seen (x ∷ xs) = inserted_seen x (sorted (λ a b. before (view a) (view b)) xs) ∙ ap (inserted before (view x)) (sorted_seen xs)
