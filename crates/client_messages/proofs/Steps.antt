-- A loop that changes each element of a list in place, step by step.
use Rattle.std.proofs.Common.{◌≡◌, ℕ, zero, suc, ◌+◌, ◌<◌, List, [], ◌∷◌, ◌++◌, length, slice_index_or, slice_set, take, drop, map, refl}
use Rattle.std.proofs.Common.{ap, ◌∙◌, Option, Some, None, append_assoc, add-one, arith}
use Rattle.std.specs.Option.{option_to_list}
use Rattle.std.specs.List.{filter_map, cons_option}
use Rattle.std.proofs.lemmas.List.{append-nil, drop_more}

-- the element at place i still stands as it was
pub get_or-map_so_far : {X : Type 0} (f : X → X) (xs : List X) (i : ℕ) (d : X) → i < length xs
    → slice_index_or (map f (take i xs) ++ drop i xs) i d ≡ slice_index_or xs i d
get_or-map_so_far f [] i d lt = absurd (omega arith)
get_or-map_so_far f (x ∷ xs) zero d lt = refl
get_or-map_so_far f (x ∷ xs) (suc i) d lt = get_or-map_so_far f xs i d (omega arith)

set-map_suc : {X : Type 0} (f : X → X) (xs : List X) (i : ℕ) (d : X) → i < length xs
    → slice_set (map f (take i xs) ++ drop i xs) i (f (slice_index_or xs i d)) ≡ map f (take (suc i) xs) ++ drop (suc i) xs
set-map_suc f [] i d lt = absurd (omega arith)
set-map_suc f (x ∷ xs) zero d lt = refl
set-map_suc f (x ∷ xs) (suc i) d lt = ap (λ l. f x ∷ l) (set-map_suc f xs i d (omega arith))

-- once it is changed too, one more is
pub set-map_so_far : {X : Type 0} (f : X → X) (xs : List X) (i : ℕ) (d : X) → i < length xs
    → slice_set (map f (take i xs) ++ drop i xs) i (f (slice_index_or xs i d)) ≡ map f (take (i + 1) xs) ++ drop (i + 1) xs
set-map_so_far f xs i d lt = rw add-one (set-map_suc f xs i d lt)

-- what is found so far, and what is found in the rest, are all that is found
pub filter_map_so_far : {X Y : Type 0} (h : X → Option Y) (xs : List X) (i : ℕ) (d : X) (found whole : List Y) → i < length xs
    → found ++ filter_map h (drop i xs) ≡ whole
    → found ++ option_to_list (h (slice_index_or xs i d)) ++ filter_map h (drop (i + 1) xs) ≡ whole
filter_map_so_far {X} {Y} h xs i d found whole lt so_far =
    let split : found ++ filter_map h (slice_index_or xs i d ∷ drop (i + 1) xs) ≡ whole = rw (drop_more xs i d lt) at so_far in
    joined (h (slice_index_or xs i d)) (filter_map h (drop (i + 1) xs)) split
  where
    joined : (o : Option Y) (rest : List Y) → found ++ cons_option o rest ≡ whole → found ++ option_to_list o ++ rest ≡ whole
    joined None rest same = rw append-nil same
    joined (Some y) rest same = rw append_assoc same

-- an element that was as in the list before, and is changed
pub set_so_far : {X : Type 0} (f : X → X) (xs ys : List X) (i : ℕ) (item d new : X) → i < length xs → ys ≡ map f (take i xs) ++ drop i xs
    → item ≡ slice_index_or xs i d → new ≡ f item → slice_set ys i new ≡ map f (take (i + 1) xs) ++ drop (i + 1) xs
set_so_far f xs ys i item d new lt so_far is made =
    ap (λ l. slice_set l i new) so_far ∙ ap (slice_set (map f (take i xs) ++ drop i xs) i) (made ∙ ap f is) ∙ set-map_so_far f xs i d lt

-- what is found at one more element is put behind what was found
pub told_so_far : {X Y : Type 0} (h : X → Option Y) (xs : List X) (i : ℕ) (item d : X) (found more whole : List Y) (o : Option Y) → i < length xs
    → item ≡ slice_index_or xs i d → o ≡ h item → more ≡ found ++ option_to_list o → found ++ filter_map h (drop i xs) ≡ whole
    → more ++ filter_map h (drop (i + 1) xs) ≡ whole
told_so_far h xs i item d found more whole o lt is noticed pushed so_far =
    ap (λ l. l ++ filter_map h (drop (i + 1) xs)) (pushed ∙ ap (λ o. found ++ option_to_list o) (noticed ∙ ap h is))
    ∙ filter_map_so_far h xs i d found whole lt so_far
