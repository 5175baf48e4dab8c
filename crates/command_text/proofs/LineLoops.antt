-- Writers called for each item of a list.
use Rattle.std.proofs.Math.ListN.{drop_of_length-le}
use Rattle.std.proofs.Math.Seq.{drop-cons}
use Rattle.std.proofs.Common.{map, suc, ◌≤◌, add-one, ◌≡◌, ℕ, ◌+◌, ◌<◌, Bool, true, false, List, [], ◌∷◌, ◌++◌, filter, if◌then◌else◌}
use Rattle.std.proofs.Common.{length, drop, get_or, Result, Ok, Err, IsErr, ap, sym, refl, arith}
use Rattle.std.specs.List.{flat_map, slice_get}
use Rattle.std.specs.Prelude.{Some}
use Rattle.std.proofs.lemmas.Option.{slice_get_within, get_or_from_slice_get}
use Rattle.std.specs.Global.{Vec}
use Rattle.command_text.specs.Answer.{Adds}
use Rattle.command_text.proofs.Adding.{adds_none, adds_stop, adds_then}
use Rattle.no_memory.specs.declared.NoMemory.{NoMemory}

-- What a loop over items has left to do: whatever writes the lines of the items that are left makes the lines of all of them.
abbrev pub Leaves : {X : Type 0} → (X → List ℕ) → List X → List X → Vec ℕ → Vec ℕ → Type 0
Leaves lines all left before now =
    (result : Result (Unit {0}) NoMemory) (after : Vec ℕ) → Adds (flat_map lines left) result now after
    → Adds (flat_map lines all) result before after

pub leaves_all : {X : Type 0} (lines : X → List ℕ) (all : List X) (out : Vec ℕ) → Leaves lines all all out out
leaves_all lines all out result after h = h

pub leaves_fewer : {X : Type 0} (lines : X → List ℕ) (all : List X) (x : X) (left : List X) (before now after : Vec ℕ) (u : Unit {0})
    → Leaves lines all (x ∷ left) before now → Adds {A = Unit {0}} {E = NoMemory} (lines x) (Ok u) now after
    → Leaves lines all left before after
leaves_fewer lines all x left before now after u h a result last k =
    h result last (adds_then (lines x) (flat_map lines left) u result now after last a k)

pub leaves_none : {X : Type 0} (lines : X → List ℕ) (all : List X) (before now : Vec ℕ) (u : Unit {0})
    → Leaves lines all [] before now → Adds {A = Unit {0}} {E = NoMemory} (flat_map lines all) (Ok u) before now
leaves_none lines all before now u h = h (Ok u) now (adds_none u now)

-- a writer that was refused ends the loop
pub leaves_off : {X B : Type 0} (lines : X → List ℕ) (all : List X) (x : X) (left : List X) (before now after : Vec ℕ) (e : NoMemory)
    (result : Result (Unit {0}) NoMemory) → Leaves lines all (x ∷ left) before now → Adds {A = B} {E = NoMemory} (lines x) (Err e) now after
    → IsErr result → Adds (flat_map lines all) result before after
leaves_off lines all x left before now after e result h a failed =
    h result after (adds_stop (lines x) (flat_map lines left) e result now after a failed)

-- the items that are left behind the one at an index
pub next_left : {X Y : Type 0} (view : X → Y) (xs : List X) (i : ℕ) (x : X) → i < length xs → x ≡ get_or xs i x
    → map view (drop i xs) ≡ view x ∷ map view (drop (i + 1) xs)
next_left view xs i x h is = rw (add-one, drop-cons xs i x) (ap (λ y. view y ∷ map view (drop (suc i) xs)) (sym is))

pub next_at : {X : Type 0} (xs : List X) (i : ℕ) (x : X) → slice_get xs i ≡ Some x → drop i xs ≡ x ∷ drop (i + 1) xs
next_at xs i x is =
    let h : i < length xs = slice_get_within xs i x is in
    rw (add-one, drop-cons xs i x) (ap (λ y. y ∷ drop (suc i) xs) (get_or_from_slice_get xs i x x is))

pub none_left : {X Y : Type 0} (view : X → Y) (xs : List X) (i : ℕ) → length xs ≤ i → map view (drop i xs) ≡ []
none_left view xs i h = ap (map view) (drop_of_length-le xs h)

pub no_items : {X : Type 0} (xs : List X) → length xs ≡ 0 → xs ≡ []
no_items [] h = refl
no_items (x ∷ xs) h = absurd (omega arith)

-- the lines of the items that pass a test
pub kept_lines : {X : Type 0} (test : X → Bool) (lines : X → List ℕ) (xs : List X)
    → flat_map (λ x. if test x then lines x else []) xs ≡ flat_map lines (filter test xs)
kept_lines test lines [] = refl
kept_lines test lines (x ∷ xs) = by_cases (test x) refl (kept_lines test lines xs) where
  by_cases : (b : Bool) → test x ≡ b
      → flat_map (λ x. if test x then lines x else []) xs ≡ flat_map lines (filter test xs)
      → flat_map (λ x. if test x then lines x else []) (x ∷ xs) ≡ flat_map lines (filter test (x ∷ xs))
  by_cases true is rest = rw is (ap (λ t. lines x ++ t) rest)
  by_cases false is rest = rw is rest
