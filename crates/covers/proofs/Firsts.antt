-- The first element that passes a test, one element after another.
use Rattle.std.proofs.Common.{◌≡◌, ℕ, ◌+◌, ◌<◌, ◌≤◌, List, ◌∷◌, Bool, true, false, cond, Some, None, length, drop, get_or, ap, ◌∙◌, sym}
use Rattle.std.specs.Prelude.{Option}
use Rattle.std.specs.List.{find}
use Rattle.std.proofs.lemmas.List.{drop_all, drop_more}

found_here : {X : Type 0} (test : X → Bool) (before rest : List X) (x : X) (all : Option X) → before ≡ x ∷ rest → test x ≡ true
    → find test before ≡ all → Some x ≡ all
found_here test before rest x all cut passes left =
    sym (ap (find test) cut ∙ ap (λ b. cond b (Some x) (find test rest)) passes) ∙ left

passed_by : {X : Type 0} (test : X → Bool) (before rest : List X) (x : X) (all : Option X) → before ≡ x ∷ rest → test x ≡ false
    → find test before ≡ all → find test rest ≡ all
passed_by test before rest x all cut fails left =
    sym (ap (find test) cut ∙ ap (λ b. cond b (Some x) (find test rest)) fails) ∙ left

-- an element at its place
cut_at : {X : Type 0} (xs : List X) (i : ℕ) (x : X) → i < length xs → x ≡ get_or xs i x → drop i xs ≡ x ∷ drop (i + 1) xs
cut_at xs i x within is = drop_more xs i x within ∙ ap (λ y. y ∷ drop (i + 1) xs) (sym is)

pub found_at : {X : Type 0} (test : X → Bool) (xs : List X) (i : ℕ) (x : X) (all : Option X) → i < length xs → x ≡ get_or xs i x
    → test x ≡ true → find test (drop i xs) ≡ all → Some x ≡ all
found_at test xs i x all within is passes left =
    found_here test (drop i xs) (drop (i + 1) xs) x all (cut_at xs i x within is) passes left

pub passed_at : {X : Type 0} (test : X → Bool) (xs : List X) (i : ℕ) (x : X) (all : Option X) → i < length xs → x ≡ get_or xs i x
    → test x ≡ false → find test (drop i xs) ≡ all → find test (drop (i + 1) xs) ≡ all
passed_at test xs i x all within is fails left =
    passed_by test (drop i xs) (drop (i + 1) xs) x all (cut_at xs i x within is) fails left

pub none_left : {X : Type 0} (test : X → Bool) (xs : List X) (i : ℕ) (all : Option X) → length xs ≤ i → find test (drop i xs) ≡ all → None ≡ all
none_left test xs i all past left = sym (ap (find test) (drop_all i xs past)) ∙ left
