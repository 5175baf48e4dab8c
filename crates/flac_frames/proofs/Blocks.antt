-- Blocks under a predictor.
use Rattle.std.proofs.Common.{◌≡◌, ℕ, suc, ◌+◌, ◌<◌, Bool, List, [], ◌∷◌, ◌++◌, length, take, drop, set, get_or, map, refl, sym, ap, ◌∙◌, arith, ℤ, pos, negsuc, ◌*ℤ◌, ◌*◌, Result, Ok, Err}
use Rattle.std.proofs.lemmas.List.{take_more_set, map_more, get_or-drop, drop-set-lt}
use Rattle.std.proofs.lemmas.Grind.{drop_more_same}
use Rattle.flac_frames.specs.Reading.{Reader, signed, times, ReadsInto}
use Rattle.flac_frames.specs.Subframe.{warm_up_of, fixed, linear, precision, shift_right, widened}
use Rattle.flac_frames.specs.Prediction.{fixed_coefficients}
use Rattle.flac_frames.specs.Predicted.{restored_block}
use Rattle.flac_frames.specs.declared.refusal.FrameError.{FrameError}

pub reads_same : {A B : Type 0} (one other : Reader (List A)) (bits from : List Bool) (result : Result B FrameError) (values : List A) (rest : List Bool)
    → one bits ≡ other from → ReadsInto other from result values rest → ReadsInto one bits result values rest
reads_same one other bits from (Ok done) values rest e h = e ∙ h
reads_same one other bits from (Err error) values rest e h = e ∙ h

pub fixed_is : (width block order size : ℕ) (bits rest : List Bool) (warm_up front cs : List ℤ)
    → warm_up_of width block order bits ≡ Ok (record { value = warm_up; rest = rest })
    → cs ≡ fixed_coefficients order → length cs ≡ order → front ≡ warm_up → size ≡ block
    → fixed width block order bits ≡ restored_block width cs 0 front size rest
unfolding fixed restored_block
fixed_is width block order size bits rest warm_up front cs w e len same b =
    rw (w, same, b, len, e) refl

pub linear_is : (width block order size : ℕ) (bits r1 r2 r3 rest : List Bool) (warm_up front cs own : List ℤ) (coefficient_bits shift : ℕ)
    → warm_up_of width block order bits ≡ Ok (record { value = warm_up; rest = r1 })
    → precision r1 ≡ Ok (record { value = coefficient_bits; rest = r2 })
    → shift_right r2 ≡ Ok (record { value = shift; rest = r3 })
    → times order (signed coefficient_bits) r3 ≡ Ok (record { value = cs; rest = rest })
    → own ≡ cs → length cs ≡ order → front ≡ warm_up → size ≡ block
    → linear width block order bits ≡ restored_block width own shift front size rest
unfolding linear restored_block
linear_is width block order size bits r1 r2 r3 rest warm_up front cs own coefficient_bits shift w p s t e len same b =
    rw (w, p, s, t, same, b, e, len) refl

once : (x : ℤ) → x *ℤ pos 1 ≡ x
once (pos a) = let e : a * 1 ≡ a = omega arith in rw e refl
once (negsuc a) = let e : suc a * 1 ≡ suc a = omega arith in rw e refl

pub widened_none : (xs : List ℤ) → xs ≡ map (widened 0) xs
widened_none [] = refl
widened_none (x ∷ xs) =
    let h : xs ≡ map (widened 0) xs = widened_none xs in
    let e : x *ℤ pos 1 ≡ x = once x in
    rw (e, sym h) refl

pub same_at : (xs ys : List ℤ) (i : ℕ) (d : ℤ) → drop i xs ≡ drop i ys → get_or xs i d ≡ get_or ys i d
same_at xs ys i d e =
    let a : get_or (drop i xs) 0 d ≡ get_or xs (i + 0) d = get_or-drop i xs 0 d in
    let b : get_or (drop i ys) 0 d ≡ get_or ys (i + 0) d = get_or-drop i ys 0 d in
    let z : i + 0 ≡ i = omega arith in
    rw z at (sym a ∙ ap (λ l. get_or l 0 d) e ∙ b)

pub widened_more : (wasted : ℕ) (out old : List ℤ) (i : ℕ) (v : ℤ) → i < length out → i < length old
    → v ≡ widened wasted (get_or old i (pos 0)) → take i out ≡ map (widened wasted) (take i old)
    → take (i + 1) (set out i v) ≡ map (widened wasted) (take (i + 1) old)
widened_more wasted out old i v h k e before =
    let m : map (widened wasted) (take (i + 1) old) ≡ map (widened wasted) (take i old) ++ widened wasted (get_or old i (pos 0)) ∷ [] = map_more (widened wasted) old i (pos 0) k in
    let t : take (i + 1) (set out i v) ≡ take i out ++ v ∷ [] = take_more_set out i v h in
    t ∙ ap (λ l. l ++ v ∷ []) before ∙ ap (λ x. map (widened wasted) (take i old) ++ x ∷ []) e ∙ sym m

pub rest_same : (out old : List ℤ) (i : ℕ) (v : ℤ) → drop i out ≡ drop i old → drop (i + 1) (set out i v) ≡ drop (i + 1) old
rest_same out old i v e = drop-set-lt (i + 1) out i v (omega arith) ∙ drop_more_same out old i e
