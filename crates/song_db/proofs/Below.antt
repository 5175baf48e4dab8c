-- What stands below a folder, by bytes: its path has those of the folder and a slash in front.
use Rattle.std.proofs.Common.{◌≡◌, ℕ, ◌<◌, ◌≤◌, Bool, true, false, ◌&&◌, List, [], ◌∷◌, length, take, get_or, nat_eq}
use Rattle.std.proofs.Common.{refl, sym, ap, ◌∙◌, arith}
use Rattle.std.proofs.lemmas.Bool.Decides.{nat_tests}
use Rattle.std.specs.Str.{bytes_eq}
use Rattle.song_db.specs.Uri.{parts}
use Rattle.song_db.specs.Place.{goes_on, is_below}

-- the bytes of the folder, and then a slash
abbrev pub begins_below : List ℕ → List ℕ → Bool
begins_below [] [] = false
begins_below [] (y ∷ ys) = nat_eq y 47
begins_below (x ∷ xs) [] = false
begins_below (x ∷ xs) (y ∷ ys) = nat_eq x y && begins_below xs ys

-- there is always a first part
pub record HasFirst (path : List ℕ) : Type 0 where
  pub first : List ℕ
  pub others : List (List ℕ)
  pub is : parts path ≡ first ∷ others

pub has_first : (path : List ℕ) → HasFirst path
has_first [] = record { first = []; others = []; is = refl }
has_first (x ∷ xs) = by_cases (nat_eq x 47) refl (has_first xs)
  where
    by_cases : (b : Bool) → nat_eq x 47 ≡ b → HasFirst xs → HasFirst (x ∷ xs)
    by_cases true slash rest = record { first = []; others = parts xs; is = rw slash refl }
    by_cases false other rest = record { first = x ∷ rest.first; others = rest.others; is = rw (other, rest.is) refl }

and_assoc : (a b c : Bool) → ((a && b) && c) ≡ (a && (b && c))
and_assoc true b c = refl
and_assoc false b c = refl

pub and_false : (b : Bool) → (b && false) ≡ false
and_false true = refl
and_false false = refl

nat_eq_comm : (x y : ℕ) → nat_eq x y ≡ nat_eq y x
nat_eq_comm x y = by_cases (nat_eq x y) refl (nat_eq y x) refl
  where
    by_cases : (a : Bool) → nat_eq x y ≡ a → (b : Bool) → nat_eq y x ≡ b → a ≡ b
    by_cases true h true k = refl
    by_cases true h false k = absurd (grind (arith, nat_tests))
    by_cases false h true k = absurd (grind (arith, nat_tests))
    by_cases false h false k = refl

pub below-bytes : (folder path : List ℕ) → is_below folder path ≡ begins_below folder path
below-bytes [] [] = refl
below-bytes [] (y ∷ ys) = by_cases (nat_eq y 47) refl (has_first ys)
  where
    by_cases : (b : Bool) → nat_eq y 47 ≡ b → HasFirst ys → is_below [] (y ∷ ys) ≡ nat_eq y 47
    by_cases true slash rest = rw (slash, rest.is) refl
    by_cases false other rest = rw (other, rest.is) refl
below-bytes (x ∷ xs) [] = by_cases (nat_eq x 47) refl (has_first xs)
  where
    by_cases : (b : Bool) → nat_eq x 47 ≡ b → HasFirst xs → is_below (x ∷ xs) [] ≡ false
    by_cases true slash rest = rw (slash, rest.is) refl
    by_cases false other rest = rw (other, rest.is) refl
below-bytes (x ∷ xs) (y ∷ ys) = by_cases (nat_eq x 47) refl (nat_eq y 47) refl (has_first xs) (has_first ys) (below-bytes xs ys)
  where
    by_cases : (a : Bool) → nat_eq x 47 ≡ a → (b : Bool) → nat_eq y 47 ≡ b → HasFirst xs → HasFirst ys
        → is_below xs ys ≡ begins_below xs ys → is_below (x ∷ xs) (y ∷ ys) ≡ (nat_eq x y && begins_below xs ys)
    by_cases true x_is true y_is front whole rest = let same : nat_eq x y ≡ true = grind (arith, nat_tests) in rw (x_is, y_is, same) rest
    by_cases true x_is false y_is front whole rest = let apart : nat_eq x y ≡ false = grind (arith, nat_tests) in rw (
      x_is,
      y_is,
      apart,
      whole.is,
    ) refl
    by_cases false x_is true y_is front whole rest = let apart : nat_eq x y ≡ false = grind (arith, nat_tests) in rw (
      x_is,
      y_is,
      apart,
      front.is,
    ) refl
    by_cases false x_is false y_is front whole rest = rw (x_is, y_is, front.is, whole.is) (and_assoc (nat_eq x y) (bytes_eq
        front.first whole.first) (goes_on front.others whole.others) ∙ ap (λ b. nat_eq x y && b) (rw (front.is, whole.is) at rest))

pub below_short : (folder path : List ℕ) → length path ≤ length folder → is_below folder path ≡ false
below_short folder path short = below-bytes folder path ∙ by_bytes folder path short
  where
    by_bytes : (folder path : List ℕ) → length path ≤ length folder → begins_below folder path ≡ false
    by_bytes [] [] short = refl
    by_bytes [] (y ∷ ys) short = absurd (omega arith)
    by_bytes (x ∷ xs) [] short = refl
    by_bytes (x ∷ xs) (y ∷ ys) short = rw (by_bytes xs ys (omega arith)) (and_false (nat_eq x y))

pub below_long : (folder path : List ℕ) → length folder < length path
    → is_below folder path ≡ (bytes_eq (take (length folder) path) folder && nat_eq (get_or path (length folder) 0) 47)
below_long folder path long = below-bytes folder path ∙ by_bytes folder path long
  where
    by_bytes : (folder path : List ℕ) → length folder < length path
        → begins_below folder path ≡ (bytes_eq (take (length folder) path) folder && nat_eq (get_or path (length folder) 0) 47)
    by_bytes [] [] long = absurd (omega arith)
    by_bytes [] (y ∷ ys) long = refl
    by_bytes (x ∷ xs) [] long = absurd (omega arith)
    by_bytes (x ∷ xs) (y ∷ ys) long = rw (by_bytes xs ys (omega arith), nat_eq_comm x y) (sym (and_assoc (nat_eq y x) (bytes_eq
        (take (length xs) ys) xs) (nat_eq (get_or ys (length xs) 0) 47)))
