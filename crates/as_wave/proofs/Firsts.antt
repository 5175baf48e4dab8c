-- The first element that passes a test, one element after another.
use Rattle.std.proofs.Common.{◌≡◌, ℕ, ◌≤◌, List, [], ◌∷◌, Bool, true, false, cond, Some, None, length, drop, map, get_or, ◌+◌, ◌<◌, ◌++◌, append_assoc, ap, ◌∙◌, sym, refl}
use Rattle.std.specs.Prelude.{Option, option_map}
use Rattle.std.specs.List.{find}
use Rattle.std.specs.Prelude.{option_to_list}
use Rattle.std.specs.List.{filter_map, cons_option}
use Rattle.std.proofs.lemmas.List.{drop_all, drop_more, append-nil}

pub find-map : {X Y : Type 0} (f : X → Y) (test : Y → Bool) (xs : List X) → find test (map f xs) ≡ option_map f (find (λ x. test (f x)) xs)
find-map f test [] = refl
find-map f test (x ∷ xs) = elim (test (f x)) as (λ b. cond b (Some (f x)) (find test (map f xs)) ≡ option_map f (cond b (Some x) (find (λ y.
    test (f y)) xs))) [
      | true ↦ refl
      | false ↦ find-map f test xs
    ]

pub found_here : {X : Type 0} (test : X → Bool) (before rest : List X) (x : X) (all : Option X) → before ≡ x ∷ rest → test x ≡ true
    → find test before ≡ all → Some x ≡ all
found_here test before rest x all cut passes left =
    sym (ap (find test) cut ∙ ap (λ b. cond b (Some x) (find test rest)) passes) ∙ left

pub passed_by : {X : Type 0} (test : X → Bool) (before rest : List X) (x : X) (all : Option X) → before ≡ x ∷ rest → test x ≡ false
    → find test before ≡ all → find test rest ≡ all
passed_by test before rest x all cut fails left =
    sym (ap (find test) cut ∙ ap (λ b. cond b (Some x) (find test rest)) fails) ∙ left

pub none_left : {X : Type 0} (test : X → Bool) (xs : List X) (i : ℕ) (all : Option X) → length xs ≤ i → find test (drop i xs) ≡ all → None ≡ all
none_left test xs i all past left = sym (ap (find test) (drop_all i xs past)) ∙ left

-- an element at its place
cut_at : {X : Type 0} (xs : List X) (i : ℕ) (x : X) → i < length xs → x ≡ get_or xs i x → drop i xs ≡ x ∷ drop (i + 1) xs
cut_at xs i x within is = drop_more xs i x within ∙ ap (λ y. y ∷ drop (i + 1) xs) (sym is)

pub found_at : {X : Type 0} (test : X → Bool) (xs : List X) (i : ℕ) (x : X) (all : Option X) → i < length xs → x ≡ get_or xs i x
    → test x ≡ true → find test (drop i xs) ≡ all → Some x ≡ all
found_at test xs i x all within is passes left =
    found_here test (drop i xs) (drop (i + 1) xs) x all (cut_at xs i x within is) passes left

pub passed_at : {X : Type 0} (test : X → Bool) (xs : List X) (i : ℕ) (x : X) (all : Option X) → i < length xs → x ≡ get_or xs i x
    → test x ≡ false → find test (drop i xs) ≡ all → find test (drop (i + 1) xs) ≡ all
passed_at test xs i x all within is fails left =
    passed_by test (drop i xs) (drop (i + 1) xs) x all (cut_at xs i x within is) fails left

-- what the elements give, one after another
cons_is : {Y : Type 0} (o : Option Y) (ys : List Y) → cons_option o ys ≡ option_to_list o ++ ys
cons_is None ys = refl
cons_is (Some y) ys = refl

pub given_more : {X Y : Type 0} (f : X → Option Y) (xs : List X) (i : ℕ) (x : X) (made now all : List Y) → i < length xs
    → x ≡ get_or xs i x → now ≡ made ++ option_to_list (f x) → made ++ filter_map f (drop i xs) ≡ all
    → now ++ filter_map f (drop (i + 1) xs) ≡ all
given_more f xs i x made now all within is push left =
    let rest = filter_map f (drop (i + 1) xs) in
    ap (λ ys. ys ++ rest) push ∙ append_assoc made (option_to_list (f x)) rest
    ∙ ap (λ ys. made ++ ys) (sym (cons_is (f x) rest) ∙ sym (ap (filter_map f) (cut_at xs i x within is))) ∙ left

pub given_all : {X Y : Type 0} (f : X → Option Y) (xs : List X) (i : ℕ) (made all : List Y) → length xs ≤ i
    → made ++ filter_map f (drop i xs) ≡ all → made ≡ all
given_all f xs i made all past left =
    sym (append-nil made) ∙ ap (λ ys. made ++ filter_map f ys) (sym (drop_all i xs past)) ∙ left
