-- Copies of one message: as many as clients get it.
use Rattle.std.proofs.Common.{◌≡◌, ℕ, ◌+◌, ◌<◌, ◌≤◌, Bool, true, false, cond, List, [], ◌∷◌, ◌++◌, length, slice_index_or, take, drop, replicate}
use Rattle.std.proofs.Common.{IsTrue, sym, ap, subst, ◌∙◌, arith, rules}
use Rattle.std.specs.List.{count_by}
use Rattle.std.proofs.lemmas.List.{length-replicate, get_or-replicate, take-replicate, replicate_more}
use Rattle.std.proofs.lemmas.List.Sums.{count_by_more_yes, count_by_more_no, sum_by-drop_more}

-- the first of some copies are copies
pub fewer : {X : Type 0} (m : X) (n : ℕ) (xs ys : List X) → xs ≡ replicate (length xs) m → ys ≡ take n xs → n ≤ length xs
    → ys ≡ replicate (length ys) m
fewer m n xs ys copies first le =
    let same : ys ≡ replicate n m = first ∙ ap (take n) copies ∙ take-replicate n (length xs) m le in
    let long : length ys ≡ n = ap length same ∙ length-replicate n m in
    same ∙ ap (λ k. replicate k m) (sym long)

-- each of them is the message
pub copy_at : {X : Type 0} (m : X) (n : ℕ) (xs : List X) (d : X) → xs ≡ replicate (length xs) m → n < length xs → slice_index_or xs n d ≡ m
copy_at m n xs d copies lt =
    ap (λ l. slice_index_or l n d) copies ∙ get_or-replicate (length xs) n m d lt

-- one more client, which gets the message
pub copied_more : {X Y : Type 0} (p : X → Bool) (xs : List X) (i : ℕ) (d : X) (m : Y) (copies : List Y) → i < length xs
    → p (slice_index_or xs i d) ≡ true → copies ≡ replicate (count_by p (take i xs)) m
    → copies ++ m ∷ [] ≡ replicate (count_by p (take (i + 1) xs)) m
copied_more p xs i d m copies lt gets so_far =
    ap (λ l. l ++ m ∷ []) so_far ∙ replicate_more (count_by p (take i xs)) m
    ∙ ap (λ n. replicate n m) (sym (count_by_more_yes p xs i d lt gets))

-- or doesn't get it
pub copied_past : {X Y : Type 0} (p : X → Bool) (xs : List X) (i : ℕ) (d : X) (m : Y) (copies : List Y) → i < length xs
    → p (slice_index_or xs i d) ≡ false → copies ≡ replicate (count_by p (take i xs)) m
    → copies ≡ replicate (count_by p (take (i + 1) xs)) m
copied_past p xs i d m copies lt past so_far = so_far ∙ ap (λ n. replicate n m) (sym (count_by_more_no p xs i d lt past))

-- how many copies are left for the clients from one on
pub left_for : {X : Type 0} (p : X → Bool) (xs : List X) (i : ℕ) (d : X) → i < length xs
    → count_by p (drop i xs) ≡ cond (p (slice_index_or xs i d)) 1 0 + count_by p (drop (i + 1) xs)
left_for p xs i d lt = sum_by-drop_more (λ x. cond (p x) 1 0) xs i d lt

-- a client that gets the message is one of these
pub enough : {X : Type 0} (p : X → Bool) (xs : List X) (i : ℕ) (d : X) → i < length xs → IsTrue (p (slice_index_or xs i d))
    → 0 < count_by p (drop i xs)
enough p xs i d lt gets = rw (left_for p xs i d lt) (by_cases (p (slice_index_or xs i d)) (count_by p (drop (i + 1) xs)) gets)
  where
    by_cases : (b : Bool) (n : ℕ) → IsTrue b → 0 < cond b 1 0 + n
    by_cases true n gets = omega arith
    by_cases false n gets = search rules

-- the copies that are left once a client has taken its own, if it gets one
pub count_left : {X : Type 0} (p : X → Bool) (xs : List X) (i : ℕ) (item d : X) (before after : ℕ) → i < length xs
    → item ≡ slice_index_or xs i d → after + cond (p item) 1 0 ≡ before → before ≡ count_by p (drop i xs)
    → after ≡ count_by p (drop (i + 1) xs)
count_left p xs i item d before after lt is less so_far =
    let here = subst (λ x. after + cond (p x) 1 0 ≡ before) is less in
    omega (arith, here, left_for p xs i d lt, so_far)

-- a client that gets the message finds a copy
pub finds_copy : {X : Type 0} (p : X → Bool) (xs : List X) (i : ℕ) (item d : X) (copies : ℕ) → i < length xs → item ≡ slice_index_or xs i d
    → copies ≡ count_by p (drop i xs) → IsTrue (p item) → 0 < copies
finds_copy p xs i item d copies lt is so_far gets =
    subst (λ n. 0 < n) (sym so_far) (enough p xs i d lt (subst (λ x. IsTrue (p x)) is gets))
