-- One URI taken to another place: those between move by one.
use Rattle.std.proofs.Common.{◌≡◌, ◌≢◌, ℕ, zero, suc, ◌+◌, ◌-◌, ◌<◌, ◌≤◌, true, false, ◌⊎◌, inl, inr, min, max, List, [], ◌∷◌, ◌++◌, length}
use Rattle.std.proofs.Common.{take, drop, get_or, slice_range, refl, sym, ap, ◌∙◌, append_assoc, arith}
use Rattle.std.specs.Str.{bytes_eq}
use Rattle.std.proofs.lemmas.Bool.{cases_lt}
use Rattle.std.proofs.lemmas.Slice.Eq.{bytes_eq-Decides}
use borrow.Rule.Slice.PartMut.{put_mid}
use Rattle.std.proofs.Math.Seq.{drop-cons, take-append-add, drop-append-add}
use Rattle.std.proofs.lemmas.List.{length-take-le, take-append-le, drop-append-le, take-take, drop-take, drop-drop, take-append-drop}
use Rattle.std.proofs.lemmas.List.{get_or-append-add, get_or_append_left, get_or-take, get_or-drop, length-drop}
use Rattle.stored_lists.specs.Songs.{Uris, moved}

-- on to a later place
pub moved-on : (xs : Uris) (from to : ℕ) → from < to → to < length xs
    → moved xs from to ≡ take from xs ++ (take (to - from) (drop (suc from) xs)
    ++ (get_or xs from [] ∷ drop (to - from) (drop (suc from) xs)))
moved-on xs from to below within =
    let f : Uris = take from xs in
    let r : Uris = drop (suc from) xs in
    let long : length f ≡ from = length-take-le from xs (omega arith) in
    let place : to ≡ length f + (to - from) = omega arith in
    let front : take to (f ++ r) ≡ f ++ take (to - from) r = ap (λ k. take k (f ++ r)) place ∙ take-append-add f r (to - from) in
    let back : drop to (f ++ r) ≡ drop (to - from) r = ap (λ k. drop k (f ++ r)) place ∙ drop-append-add f r (to - from) in
    rw (front, back) (append_assoc f (take (to - from) r) (get_or xs from [] ∷ drop (to - from) r))

pub turned-on : (xs : Uris) (from to : ℕ) (ys : Uris) → from < to → to < length xs
    → ys ≡ drop 1 (slice_range xs from (to + 1)) ++ take 1 (slice_range xs from (to + 1))
    → put_mid from (to + 1 - from) xs ys ≡ moved xs from to
turned-on xs from to ys below within made =
    let r : Uris = drop (suc from) xs in
    let m : ℕ = to - from in
    let whole : drop from xs ≡ get_or xs from [] ∷ r = drop-cons xs from [] (omega arith) in
    let count : to + 1 - from ≡ suc m = omega arith in
    let turned : ys ≡ take m r ++ (get_or xs from [] ∷ []) = made ∙ rw (count, whole) refl in
    let rest : drop (to + 1 - from) (drop from xs) ≡ drop m r = rw (count, whole) refl in
    rw (turned, rest) (ap (λ l. take from xs ++ l) (append_assoc (take m r) (get_or xs from [] ∷ []) (drop m r))
    ∙ sym (moved-on xs from to below within))

-- back to an earlier place
pub moved-back : (xs : Uris) (from to : ℕ) → to ≤ from → from < length xs
    → moved xs from to ≡ take to xs ++ (get_or xs from [] ∷ (take (from - to) (drop to xs) ++ drop (suc from) xs))
moved-back xs from to below within =
    let f : Uris = take from xs in
    let r : Uris = drop (suc from) xs in
    let long : length f ≡ from = length-take-le from xs (omega arith) in
    let sum : to + (from - to) ≡ from = omega arith in
    let front : take to (f ++ r) ≡ take to xs = take-append-le to f r (omega arith) ∙ take-take to from xs (omega arith) in
    let part : drop to f ≡ take (from - to) (drop to xs) = ap (λ k. drop to (take k xs)) (sym sum) ∙ drop-take to (from - to) xs in
    let back : drop to (f ++ r) ≡ take (from - to) (drop to xs) ++ r = drop-append-le to f r (omega arith) ∙ ap (λ l. l ++ r) part in
    rw (front, back) refl

pub turned-back : (xs : Uris) (from to : ℕ) (ys : Uris) → to ≤ from → from < length xs
    → ys ≡ drop (from - to) (slice_range xs to (from + 1)) ++ take (from - to) (slice_range xs to (from + 1))
    → put_mid to (from + 1 - to) xs ys ≡ moved xs from to
turned-back xs from to ys below within made =
    let m : ℕ = from - to in
    let whole : drop from xs ≡ get_or xs from [] ∷ drop (suc from) xs = drop-cons xs from [] (omega arith) in
    let count : from + 1 - to ≡ m + 1 = omega arith in
    let sum : to + m ≡ from = omega arith in
    let behind : drop m (drop to xs) ≡ get_or xs from [] ∷ drop (suc from) xs = drop-drop m to xs ∙ ap (λ k. drop k xs) sum ∙ whole in
    let first : drop m (take (m + 1) (drop to xs)) ≡ get_or xs from [] ∷ [] = drop-take m 1 (drop to xs) ∙ rw behind refl in
    let others : take m (take (m + 1) (drop to xs)) ≡ take m (drop to xs) = take-take m (m + 1) (drop to xs) (omega arith) in
    let turned : ys ≡ (get_or xs from [] ∷ []) ++ take m (drop to xs) = made ∙ rw (count, first, others) refl in
    let last : to + (from + 1 - to) ≡ suc from = omega arith in
    let rest : drop (from + 1 - to) (drop to xs) ≡ drop (suc from) xs = drop-drop (from + 1 - to) to xs ∙ ap (λ k. drop k xs) last in
    rw (turned, rest) (sym (moved-back xs from to below within))

-- the URI at a place between, afterwards
behind_on : (xs : Uris) (from to at : ℕ) → from < to → to < length xs → from ≤ at → at < to
    → get_or (moved xs from to) at [] ≡ get_or xs (at + 1) []
behind_on xs from to at below within low high =
    let f : Uris = take from xs in
    let r : Uris = drop (suc from) xs in
    let x : List ℕ = get_or xs from [] in
    let m : ℕ = to - from in
    let j : ℕ = at - from in
    let long : length f ≡ from = length-take-le from xs (omega arith) in
    let part : length (take m r) ≡ m = length-take-le m r (omega (arith, length-drop (suc from) xs)) in
    let place : at ≡ length f + j = omega arith in
    let read : get_or (f ++ (take m r ++ (x ∷ drop m r))) (length f + j) [] ≡ get_or xs (suc from + j) [] =
    get_or-append-add f (take m r ++ (x ∷ drop m r)) j [] ∙ get_or_append_left (take m r) (x ∷ drop m r) [] j (omega arith)
    ∙ get_or-take m r j [] (omega arith) ∙ get_or-drop (suc from) xs j [] in
    ap (λ l. get_or l at []) (moved-on xs from to below within) ∙ ap (λ k. get_or (f ++ (take m r ++ (x ∷ drop m r))) k []) place ∙ read
    ∙ ap (λ k. get_or xs k []) (omega arith)

behind_back : (xs : Uris) (from to at : ℕ) → to ≤ from → from < length xs → to ≤ at → at < from
    → get_or (moved xs from to) (at + 1) [] ≡ get_or xs at []
behind_back xs from to at below within low high =
    let f : Uris = take to xs in
    let r : Uris = drop (suc from) xs in
    let x : List ℕ = get_or xs from [] in
    let m : ℕ = from - to in
    let j : ℕ = at - to in
    let a : Uris = take m (drop to xs) in
    let long : length f ≡ to = length-take-le to xs (omega arith) in
    let part : length a ≡ m = length-take-le m (drop to xs) (omega (arith, length-drop to xs)) in
    let place : at + 1 ≡ length f + suc j = omega arith in
    let read : get_or (f ++ (x ∷ (a ++ r))) (length f + suc j) [] ≡ get_or xs (to + j) [] =
    get_or-append-add f (x ∷ (a ++ r)) (suc j) [] ∙ get_or_append_left a r [] j (omega arith)
    ∙ get_or-take m (drop to xs) j [] (omega arith) ∙ get_or-drop to xs j [] in
    ap (λ l. get_or l (at + 1) []) (moved-back xs from to below within) ∙ ap (λ k. get_or (f ++ (x ∷ (a ++ r))) k []) place ∙ read
    ∙ ap (λ k. get_or xs k []) (omega arith)

-- where two neighbours between the places differ, a move changes something
pub moves : (xs : Uris) (from to at : ℕ) → from < length xs → to < length xs → min from to ≤ at → at < max from to
    → bytes_eq (get_or xs at []) (get_or xs (at + 1) []) ≡ false → moved xs from to ≢ xs
moves xs from to at in_from in_to low high apart same = of (cases_lt from to)
  where
    other : get_or xs at [] ≡ get_or xs (at + 1) [] → ⊥
    other is =
        let yes : bytes_eq (get_or xs at []) (get_or xs (at + 1) []) ≡ true =
        (bytes_eq-Decides (get_or xs at []) (get_or xs (at + 1) [])).1 is in
        absurd (cc)

    of : (from < to) ⊎ (to ≤ from) → ⊥
    of (inl below) = other (ap (λ l. get_or l at []) (sym same) ∙ behind_on xs from to at below in_to (omega arith) (omega arith))
    of (inr above) = other (sym (behind_back xs from to at above in_from (omega arith) (omega arith)) ∙ ap (λ l. get_or l (at + 1) []) same)

-- neighbours that are equal are all equal
chain : (xs : Uris) (low high j : ℕ) → ((k : ℕ) → low ≤ k → k < high → get_or xs k [] ≡ get_or xs (k + 1) []) → low + j ≤ high
    → get_or xs (low + j) [] ≡ get_or xs low []
chain xs low high zero equal within = ap (λ k. get_or xs k []) (omega arith)
chain xs low high (suc j) equal within = ap (λ k. get_or xs k []) (omega arith) ∙ sym (equal (low + j) (omega arith) (omega arith))
    ∙ chain xs low high j equal (omega arith)

-- one of some equal URIs may stand at either end
either_end : (xs : Uris) (x : List ℕ) → ((k : ℕ) → k < length xs → get_or xs k [] ≡ x) → xs ++ x ∷ [] ≡ x ∷ xs
either_end [] x all = refl
either_end (y ∷ xs) x all =
    let first : y ≡ x = all 0 (omega arith) in
    ap (λ l. y ∷ l) (either_end xs x (λ k within. all (suc k) (omega arith))) ∙ rw first refl

-- where all between the places are equal, a move changes nothing
pub stays : (xs : Uris) (from to : ℕ) → from < length xs → to < length xs
    → ((k : ℕ) → min from to ≤ k → k < max from to → get_or xs k [] ≡ get_or xs (k + 1) []) → moved xs from to ≡ xs
stays xs from to in_from in_to equal = of (cases_lt from to)
  where
    of : (from < to) ⊎ (to ≤ from) → moved xs from to ≡ xs
    of (inl below) =
        let r : Uris = drop (suc from) xs in
        let x : List ℕ = get_or xs from [] in
        let m : ℕ = to - from in
        let part : length (take m r) ≡ m = length-take-le m r (omega (arith, length-drop (suc from) xs)) in
        let ends : take m r ++ x ∷ [] ≡ x ∷ take m r =
        either_end (take m r) x (λ k within. get_or-take m r k [] (omega arith) ∙ get_or-drop (suc from) xs k []
        ∙ ap (λ n. get_or xs n []) (omega arith)
        ∙ chain xs from to (suc k) (λ n low high. equal n (omega arith) (omega arith)) (omega arith)) in
        let whole : drop from xs ≡ x ∷ r = drop-cons xs from [] (omega arith) in
        moved-on xs from to below in_to ∙ ap (λ l. take from xs ++ l) (sym (append_assoc (take m r) (x ∷ []) (drop m r))
        ∙ ap (λ l. l ++ drop m r) ends ∙ ap (λ l. x ∷ l) (take-append-drop m r) ∙ sym whole) ∙ take-append-drop from xs
    of (inr above) =
        let r : Uris = drop (suc from) xs in
        let x : List ℕ = get_or xs from [] in
        let m : ℕ = from - to in
        let a : Uris = take m (drop to xs) in
        let sum : to + m ≡ from = omega arith in
        let part : length a ≡ m = length-take-le m (drop to xs) (omega (arith, length-drop to xs)) in
        let last : get_or xs to [] ≡ x = sym (chain xs to from m (λ n low high. equal n (omega arith) (omega arith)) (omega arith))
        ∙ ap (λ n. get_or xs n []) sum in
        let ends : a ++ x ∷ [] ≡ x ∷ a = either_end a x (λ k within. get_or-take m (drop to xs) k [] (omega arith) ∙ get_or-drop to xs k []
        ∙ chain xs to from k (λ n low high. equal n (omega arith) (omega arith)) (omega arith) ∙ last) in
        let behind : drop m (drop to xs) ≡ x ∷ r = drop-drop m to xs ∙ ap (λ k. drop k xs) sum ∙ drop-cons xs from [] (omega arith) in
        let rest : a ++ (x ∷ r) ≡ drop to xs = ap (λ l. a ++ l) (sym behind) ∙ take-append-drop m (drop to xs) in
        moved-back xs from to above in_from ∙ ap (λ l. take to xs ++ l) (ap (λ l. l ++ r) (sym ends) ∙ append_assoc a (x ∷ []) r ∙ rest)
        ∙ take-append-drop to xs

-- one more pair of neighbours that are equal
pub equal_more : (xs : Uris) (low at : ℕ) → ((k : ℕ) → low ≤ k → k < at → get_or xs k [] ≡ get_or xs (k + 1) [])
    → bytes_eq (get_or xs at []) (get_or xs (at + 1) []) ≡ true → (k : ℕ) → low ≤ k → k < at + 1 → get_or xs k [] ≡ get_or xs (k + 1) []
equal_more xs low at before here k above within = of (cases_lt k at)
  where
    of : (k < at) ⊎ (at ≤ k) → get_or xs k [] ≡ get_or xs (k + 1) []
    of (inl earlier) = before k above earlier
    of (inr later) =
        let same : k ≡ at = omega arith in
        rw same ((bytes_eq-Decides (get_or xs at []) (get_or xs (at + 1) [])).0 here)
