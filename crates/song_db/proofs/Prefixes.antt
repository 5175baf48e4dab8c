-- What stands in a folder stands where the folder does.
use Rattle.std.proofs.Common.{◌≡◌, ℕ, Bool, true, false, ◌&&◌, ◌||◌, List, [], ◌∷◌, ◌++◌, Option, Some, None, nat_eq}
use Rattle.std.proofs.Common.{refl, sym, ap, ◌∙◌, append_assoc, arith}
use Rattle.std.proofs.lemmas.Bool.Decides.{nat_tests}
use Rattle.std.specs.Str.{bytes_eq}
use Rattle.song_db.specs.Found.{IsPrefixIn}
use Rattle.song_db.specs.Place.{is_below}
use Rattle.song_db.specs.Scan.{is_in}
use Rattle.song_db.proofs.Below.{begins_below, below-bytes}

or_true : (b : Bool) → (b || true) ≡ true
or_true true = refl
or_true false = refl

extends : (folder path rest : List ℕ) → (bytes_eq path folder || begins_below folder path) ≡ true
    → begins_below folder (path ++ 47 ∷ rest) ≡ true
extends [] [] rest h = refl
extends [] (y ∷ ys) rest h = h
extends (x ∷ xs) [] rest h = absurd (cc)
extends (x ∷ xs) (y ∷ ys) rest h = by_cases (nat_eq y x) refl (nat_eq x y) refl h (extends xs ys rest)
  where
    by_cases : (a : Bool) → nat_eq y x ≡ a → (b : Bool) → nat_eq x y ≡ b
        → ((a && bytes_eq ys xs) || (b && begins_below xs ys)) ≡ true → ((bytes_eq ys xs || begins_below xs ys) ≡ true
        → begins_below xs (ys ++ 47 ∷ rest) ≡ true) → (b && begins_below xs (ys ++ 47 ∷ rest)) ≡ true
    by_cases true e true f told after = after told
    by_cases true e false f told after = absurd (grind (arith, nat_tests))
    by_cases false e true f told after = absurd (grind (arith, nat_tests))
    by_cases false e false f told after = absurd (cc)

pub prefix_in : (place : Option (List ℕ)) (folder prefix : List ℕ) → is_in place folder ≡ true → prefix ≡ folder ++ 47 ∷ []
    → IsPrefixIn place prefix
prefix_in None folder prefix within is = λ name. refl
prefix_in (Some uri) folder prefix within is = λ name.
    let path : prefix ++ name ≡ folder ++ 47 ∷ name = ap (λ p. p ++ name) is ∙ append_assoc folder (47 ∷ []) name in
    let below : is_below uri (folder ++ 47 ∷ name) ≡ true = below-bytes uri (folder ++ 47 ∷ name)
    ∙ extends uri folder name (ap (λ b. bytes_eq folder uri || b) (sym (below-bytes uri folder)) ∙ within) in
    rw (path, below) (or_true (bytes_eq (folder ++ 47 ∷ name) uri))

bytes_same : (xs : List ℕ) → bytes_eq xs xs ≡ true
bytes_same [] = refl
bytes_same (x ∷ xs) = let same : nat_eq x x ≡ true = grind (arith, nat_tests) in rw same (bytes_same xs)

pub own_in : (place : Option (List ℕ)) (uri : List ℕ) → Some uri ≡ place → is_in place uri ≡ true
own_in None uri is = absurd (cc)
own_in (Some own) uri is = let same : uri ≡ own = cc in rw (same, bytes_same own) refl
