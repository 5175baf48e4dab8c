-- Lists: all items, and whether there is one.
use Rattle.std.proofs.Common.{◌≡◌, ℕ, zero, suc, ◌+◌, Bool, true, false, cond, ltb, List, [], ◌∷◌, ◌++◌, length, refl, sym, ◌∙◌, arith}
use Rattle.std.proofs.Common.{Some, ◌<◌, ◌⊎◌, ◌≢◌, get_or, ap, subst}
use Rattle.std.proofs.Common.{None, inl, inr}
use Rattle.std.specs.Prelude.{Option, is_some, position}
use Rattle.std.specs.List.{All, AllByRecursion, list_all, list_any, position_or_len}
use Rattle.std.proofs.lemmas.Bool.{cases_eq, cases_lt, lt-ltb, le-ltb}
use Rattle.std.proofs.lemmas.List.{get_or_default}
use Rattle.std.proofs.lemmas.List.Folds.{list_all-append}

-- all items, by place and by recursion
pub all_by : {A : Type 0} (P : A → Type 0) (xs : List A) → All P xs → AllByRecursion P xs
all_by P [] all = tt
all_by P (x ∷ xs) all = (all 0 x (omega arith), all_by P xs (λ k d lt. all (suc k) d (omega arith)))

pub by_all : {A : Type 0} (P : A → Type 0) (xs : List A) → AllByRecursion P xs → All P xs
by_all P [] all k d lt = absurd (omega arith)
by_all P (x ∷ xs) all zero d lt = all.0
by_all P (x ∷ xs) all (suc k) d lt = by_all P xs all.1 k d (omega arith)

-- one item more of which it holds, as a loop goes on
pub all_more : {A : Type 0} (P : A → Type 0) (xs : List A) (i : ℕ) (x : A) → i < length xs → x ≡ get_or xs i x → P x
    → ((k : ℕ) (d : A) → k < i → P (get_or xs k d)) → (k : ℕ) (d : A) → k < i + 1 → P (get_or xs k d)
all_more {A} P xs i x within is here before k d under = of (cases_eq k i) where
  of : (k ≡ i) ⊎ (k ≢ i) → P (get_or xs k d)
  of (inl same) =
      let there : x ≡ get_or xs k d = is ∙ get_or_default xs i x d within ∙ ap (λ (n : ℕ). get_or xs n d) (sym same) in
      subst P there here
  of (inr other) = before k d (omega (arith, other))

pub all_pushed : {A : Type 0} (p : A → Bool) (xs : List A) (x : A) → list_all p xs ≡ true → p x ≡ true
    → list_all p (xs ++ x ∷ []) ≡ true
all_pushed p xs x all holds = list_all-append p xs (x ∷ []) ∙ rw (all, holds) refl

-- what is made where a test is passed is made
pub not_none : {A : Type 0} (b : Bool) (x : A) (o : Option A) → o ≡ cond b (Some x) None → b ≡ true → o ≡ None → ⊥
not_none true x o e h f = absurd cc
not_none false x o e h f = absurd cc

some_if : {A : Type 0} (b : Bool) (x : A) → is_some (cond b (Some x) None) ≡ b
some_if true x = refl
some_if false x = refl

same_lt : (n m : ℕ) → ltb (1 + n) (suc m) ≡ ltb n m
same_lt n m = elim (cases_lt n m) [
  | inl lt ↦ lt-ltb (1 + n) (suc m) (omega arith)
      ∙ sym (lt-ltb n m lt)
  | inr le ↦ le-ltb (1 + n) (suc m) (omega arith) ∙ sym (le-ltb n m le)
]

any_step : {A : Type 0} (p : A → Bool) (x : A) (xs : List A) (b : Bool) → p x ≡ b → ltb (position_or_len p xs) (length xs) ≡ list_any p xs
    → ltb (position_or_len p (x ∷ xs)) (length (x ∷ xs)) ≡ list_any p (x ∷ xs)
any_step p x xs true e h = rw e (lt-ltb 0 (suc (length xs)) (omega arith))
any_step p x xs false e h = rw e (same_lt (position_or_len p xs) (length xs) ∙ h)

any_below : {A : Type 0} (p : A → Bool) (xs : List A) → ltb (position_or_len p xs) (length xs) ≡ list_any p xs
any_below p [] = refl
any_below p (x ∷ xs) = any_step p x xs (p x) refl (any_below p xs)

pub any_position : {A : Type 0} (p : A → Bool) (xs : List A) → is_some (position p xs) ≡ list_any p xs
any_position p xs = some_if (ltb (position_or_len p xs) (length xs)) (position_or_len p xs) ∙ any_below p xs
