-- The beginnings of a path that pass a test, one after the other.
use Rattle.std.proofs.Common.{◌≡◌, ℕ, suc, ◌<◌, ◌≤◌, Bool, true, false, List, [], ◌∷◌, ◌++◌, length, take, drop, filter, refl, sym, ap, ◌∙◌}
use Rattle.std.proofs.Common.{subst}
use Rattle.std.specs.Prelude.{Option, Some, None, option_to_list, if◌then◌else◌}
use Rattle.song_db.specs.declared.place.Place.{Place}
use Rattle.song_db.specs.Row.{Row}
use Rattle.song_db.specs.ToldWalk.{told_from, walk_behind}
use Rattle.song_db.specs.Walk.{beginnings}
use Rattle.song_db.proofs.Beginnings.{next_beginning, no_beginning}

passing_yes : (p : List ℕ → Bool) (path : List ℕ) (n : ℕ) → n < length path → p (take (suc n) path) ≡ true
    → filter p (drop n (beginnings path)) ≡ take (suc n) path ∷ filter p (drop (suc n) (beginnings path))
passing_yes p path n within is = rw (next_beginning n path within, is) refl

passing_no : (p : List ℕ → Bool) (path : List ℕ) (n : ℕ) → n < length path → p (take (suc n) path) ≡ false
    → filter p (drop n (beginnings path)) ≡ filter p (drop (suc n) (beginnings path))
passing_no p path n within is = rw (next_beginning n path within, is) refl

pub none_passes : (p : List ℕ → Bool) (path : List ℕ) (n : ℕ) → length path ≤ n → filter p (drop n (beginnings path)) ≡ []
none_passes p path n past = rw (no_beginning n path past) refl

passing_after : (p : List ℕ → Bool) (path : List ℕ) (n : ℕ) (told : Option (List ℕ)) → n < length path
    → told ≡ (if p (take (suc n) path) then Some (take (suc n) path) else None)
    → filter p (drop n (beginnings path)) ≡ option_to_list told ++ filter p (drop (suc n) (beginnings path))
passing_after p path n told within is = by_test (p (take (suc n) path)) refl is
  where
    by_test : (b : Bool) → p (take (suc n) path) ≡ b → told ≡ (if b then Some (take (suc n) path) else None)
        → filter p (drop n (beginnings path)) ≡ option_to_list told ++ filter p (drop (suc n) (beginnings path))
    by_test true h is = passing_yes p path n within h
        ∙ ap (λ (o : Option (List ℕ)). option_to_list o ++ filter p (drop (suc n) (beginnings path))) (sym is)
    by_test false h is = passing_no p path n within h
        ∙ ap (λ (o : Option (List ℕ)). option_to_list o ++ filter p (drop (suc n) (beginnings path))) (sym is)

-- what was told of the next beginning comes next
pub next_passes : (p : List ℕ → Bool) (path : List ℕ) (n m : ℕ) → suc n ≡ m → (told : Option (List ℕ)) → n < length path
    → told ≡ (if p (take m path) then Some (take m path) else None)
    → filter p (drop n (beginnings path)) ≡ option_to_list told ++ filter p (drop m (beginnings path))
next_passes p path n m after told within =
    subst (λ (k : ℕ). told ≡ (if p (take k path) then Some (take k path) else None)
    → filter p (drop n (beginnings path)) ≡ option_to_list told ++ filter p (drop k (beginnings path))) after (passing_after p path n told within)

-- where no beginning is done, all is left
pub all_left : (place : Place) (before : List ℕ) (rows : List Row) → walk_behind place before 0 rows ≡ told_from place before rows
all_left place before [] = refl
all_left place before (row ∷ rows) = refl
