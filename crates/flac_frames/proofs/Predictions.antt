-- Sums and samples one by one.
use Rattle.std.proofs.Common.{◌≡◌, ℕ, zero, suc, ◌+◌, ◌<◌, ◌≤◌, true, false, List, [], ◌∷◌, ◌++◌, length, take, drop, set, get_or, reverse, refl, sym, ap, ◌∙◌, arith, append_assoc, add-one, ℤ, pos, ◌+ℤ◌, ◌*ℤ◌, Result, Ok, Err}
use Rattle.std.proofs.Math.IntN.{+ℤ_comm, +ℤ_assoc}
use Rattle.std.proofs.lemmas.List.{drop_more, take_more_set, drop-set-lt, reverse-append, take_all, drop_all, append-nil}
use Rattle.flac_frames.specs.Bits.{fits}
use Rattle.flac_frames.specs.Prediction.{weighted, predicted, joined, restored}
use Rattle.flac_frames.specs.declared.refusal.FrameError.{FrameError}
use Rattle.flac_frames.specs.declared.refusal.FrameError.TheVariants.{TooLarge}

weighted-suc : (cs xs : List ℤ) (j : ℕ) → j < length cs → j < length xs
    → weighted (take (suc j) cs) xs ≡ weighted (take j cs) xs +ℤ get_or cs j (pos 0) *ℤ get_or xs j (pos 0)
unfolding weighted
weighted-suc [] xs j h k = absurd (omega arith)
weighted-suc (c ∷ cs) [] j h k = absurd (omega arith)
weighted-suc (c ∷ cs) (x ∷ xs) zero h k = +ℤ_comm (c *ℤ x) (pos 0)
weighted-suc (c ∷ cs) (x ∷ xs) (suc j) h k =
    let ih : weighted (take (suc j) cs) xs ≡ weighted (take j cs) xs +ℤ get_or cs j (pos 0) *ℤ get_or xs j (pos 0) = weighted-suc cs xs j (omega arith) (omega arith) in
    ap (λ z. c *ℤ x +ℤ z) ih ∙ sym (+ℤ_assoc (c *ℤ x) (weighted (take j cs) xs) (get_or cs j (pos 0) *ℤ get_or xs j (pos 0)))

-- one product more
pub weighted_more : (cs xs : List ℤ) (j : ℕ) → j < length cs → j < length xs
    → weighted (take (j + 1) cs) xs ≡ weighted (take j cs) xs +ℤ get_or cs j (pos 0) *ℤ get_or xs j (pos 0)
weighted_more cs xs j h k = rw add-one (weighted-suc cs xs j h k)

joined-joined : (front : List ℤ) (s : ℤ) (r : Result (List ℤ) FrameError) → joined front (joined (s ∷ []) r) ≡ joined (front ++ s ∷ []) r
joined-joined front s (Ok back) = rw (append_assoc front (s ∷ []) back) refl
joined-joined front s (Err error) = refl

restored_cons : (w : ℕ) (cs : List ℤ) (sh : ℕ) (earlier : List ℤ) (r : ℤ) (rs front : List ℤ) (s : ℤ)
    → s ≡ r +ℤ predicted cs sh earlier → fits w s ≡ true
    → joined front (restored w cs sh earlier (r ∷ rs)) ≡ joined (front ++ s ∷ []) (restored w cs sh (s ∷ earlier) rs)
unfolding restored
restored_cons w cs sh earlier r rs front s e h =
    let h' : fits w (r +ℤ predicted cs sh earlier) ≡ true = rw e at h in
    rw h' (rw (sym e) (joined-joined front s (restored w cs sh (s ∷ earlier) rs)))

restored_not : (w : ℕ) (cs : List ℤ) (sh : ℕ) (earlier : List ℤ) (r : ℤ) (rs front : List ℤ) (s : ℤ)
    → s ≡ r +ℤ predicted cs sh earlier → fits w s ≡ false
    → joined front (restored w cs sh earlier (r ∷ rs)) ≡ Err TooLarge
unfolding restored
restored_not w cs sh earlier r rs front s e h =
    let h' : fits w (r +ℤ predicted cs sh earlier) ≡ false = rw e at h in
    rw h' refl

-- one sample more
pub restored_more : (w : ℕ) (cs : List ℤ) (sh : ℕ) (xs : List ℤ) (i : ℕ) (s : ℤ) (all : Result (List ℤ) FrameError)
    → i < length xs → s ≡ get_or xs i (pos 0) +ℤ predicted cs sh (reverse (take i xs)) → fits w s ≡ true
    → joined (take i xs) (restored w cs sh (reverse (take i xs)) (drop i xs)) ≡ all
    → joined (take (i + 1) (set xs i s)) (restored w cs sh (reverse (take (i + 1) (set xs i s))) (drop (i + 1) (set xs i s))) ≡ all
restored_more w cs sh xs i s all h e ok before =
    let d : drop i xs ≡ get_or xs i (pos 0) ∷ drop (i + 1) xs = drop_more xs i (pos 0) h in
    let t : take (i + 1) (set xs i s) ≡ take i xs ++ s ∷ [] = take_more_set xs i s h in
    let r : reverse (take i xs ++ s ∷ []) ≡ s ∷ reverse (take i xs) = reverse-append (take i xs) (s ∷ []) in
    let k : drop (i + 1) (set xs i s) ≡ drop (i + 1) xs = drop-set-lt (i + 1) xs i s (omega arith) in
    let step : joined (take i xs) (restored w cs sh (reverse (take i xs)) (get_or xs i (pos 0) ∷ drop (i + 1) xs))
    ≡ joined (take i xs ++ s ∷ []) (restored w cs sh (s ∷ reverse (take i xs)) (drop (i + 1) xs))
    = restored_cons w cs sh (reverse (take i xs)) (get_or xs i (pos 0)) (drop (i + 1) xs) (take i xs) s e ok in
    rw (t, r, k) (sym step ∙ (rw d at before))

pub restored_fault : (w : ℕ) (cs : List ℤ) (sh : ℕ) (xs : List ℤ) (i : ℕ) (s : ℤ) (all : Result (List ℤ) FrameError)
    → i < length xs → s ≡ get_or xs i (pos 0) +ℤ predicted cs sh (reverse (take i xs)) → fits w s ≡ false
    → joined (take i xs) (restored w cs sh (reverse (take i xs)) (drop i xs)) ≡ all → all ≡ Err TooLarge
restored_fault w cs sh xs i s all h e not_fits before =
    let d : drop i xs ≡ get_or xs i (pos 0) ∷ drop (i + 1) xs = drop_more xs i (pos 0) h in
    sym (rw d at before) ∙ restored_not w cs sh (reverse (take i xs)) (get_or xs i (pos 0)) (drop (i + 1) xs) (take i xs) s e not_fits

pub restored_end : (w : ℕ) (cs : List ℤ) (sh : ℕ) (xs : List ℤ) (i : ℕ) (all : Result (List ℤ) FrameError)
    → length xs ≤ i → joined (take i xs) (restored w cs sh (reverse (take i xs)) (drop i xs)) ≡ all → all ≡ Ok xs
unfolding restored
restored_end w cs sh xs i all h before =
    let d : drop i xs ≡ [] = drop_all i xs h in
    let t : take i xs ≡ xs = take_all i xs h in
    sym before ∙ rw (d, t) (rw (append-nil xs) refl)
