-- Samples one after the other, and their bytes.
use Rattle.std.proofs.Common.{◌≡◌, ◌<◌, ℕ, zero, suc, ◌+◌, ◌*◌, List, [], ◌∷◌, ◌++◌, ◌-◌, length, take, drop, map, set, get_or, arith, ap, ◌∙◌, sym}
use Rattle.std.proofs.Common.{refl, ℤ, append_assoc, length-append}
use Rattle.std.specs.Int.{w16, to_le_bytes, cast_unsigned}
use Rattle.std.proofs.lemmas.List.{drop-drop, map_push, set_at, drop_more, length-map, take_all, length-drop}
use Rattle.std.proofs.lemmas.List.Concat.{flat_map-append}
use Rattle.as_wave.specs.Format.{byte_len}
use Rattle.as_wave.specs.Samples.{sample_at, samples_of, at_16, bytes_of}
use Rattle.as_wave.specs.declared.format.SampleWidth.{SampleWidth}

-- all from a place on
pub rest_is : (xs : List ℕ) (n : ℕ) → take (length xs - n) (drop n xs) ≡ drop n xs
rest_is xs n = take_all (length xs - n) (drop n xs) (omega (arith, length-drop n xs))

abbrev pub two_bytes : ℤ → List ℕ
two_bytes z = to_le_bytes w16 (cast_unsigned w16 z)

pub samples_of-more : (w : SampleWidth) (k : ℕ) (raw : List ℕ)
    → samples_of w (k + 1) raw ≡ samples_of w k raw ++ sample_at w (drop (byte_len w * k) raw) ∷ []
samples_of-more w zero raw = let e : byte_len w * 0 ≡ 0 = omega arith in rw e refl
samples_of-more w (suc k) raw =
    let e : suc k + 1 ≡ suc (k + 1) = omega arith in
    let f : byte_len w + byte_len w * k ≡ byte_len w * suc k = omega arith in
    rw e (ap (λ zs. sample_at w raw ∷ zs) (samples_of-more w k (drop (byte_len w) raw)
    ∙ ap (λ xs. samples_of w k (drop (byte_len w) raw) ++ sample_at w xs ∷ []) (drop-drop (byte_len w * k) (byte_len w) raw
    ∙ ap (λ i. drop i raw) f)))

pub length-samples_of : (w : SampleWidth) (n : ℕ) (raw : List ℕ) → length (samples_of w n raw) ≡ n
length-samples_of w zero raw = refl
length-samples_of w (suc n) raw = ap suc (length-samples_of w n (drop (byte_len w) raw))

pub length-bytes_of : (zs : List ℤ) → length (bytes_of zs) ≡ 2 * length zs
length-bytes_of [] = refl
length-bytes_of (z ∷ zs) = omega (arith, length-bytes_of zs)

pub bytes_of-push : (f : ℤ → ℤ) (zs : List ℤ) (z : ℤ) → bytes_of (map f (zs ++ z ∷ [])) ≡ bytes_of (map f zs) ++ two_bytes (f z)
bytes_of-push f zs z = ap bytes_of (map_push f zs z) ∙ flat_map-append two_bytes (map f zs) (f z ∷ [])

pub put_pair : (front was : List ℕ) (i a b : ℕ) → length front ≡ 2 * i → 2 * i + 1 < length was
    → set (set (front ++ drop (2 * i) was) (2 * i) a) (2 * i + 1) b ≡ (front ++ a ∷ b ∷ []) ++ drop (2 * (i + 1)) was
put_pair front was i a b long room =
    let e : 2 * i + 1 + 1 ≡ 2 * (i + 1) = omega arith in
    let x = get_or was (2 * i) 0 in
    let y = get_or was (2 * i + 1) 0 in
    let rest = drop (2 * (i + 1)) was in
    let cut : drop (2 * i) was ≡ x ∷ y ∷ rest = drop_more was (2 * i) 0 (omega arith) ∙ ap (λ ys. x ∷ ys) (drop_more was (2 * i + 1) 0
    room ∙ ap (λ n. y ∷ drop n was) e) in
    ap (λ ys. set (set (front ++ ys) (2 * i) a) (2 * i + 1) b) cut
    ∙ ap (λ ys. set ys (2 * i + 1) b) (set_at front x (y ∷ rest) a (2 * i) long ∙ sym (append_assoc front (a ∷ []) (y ∷ rest)))
    ∙ set_at (front ++ a ∷ []) y rest b (2 * i + 1) (length-append front (a ∷ []) ∙ ap (λ n. n + 1) long)
    ∙ append_assoc front (a ∷ []) (b ∷ rest) ∙ sym (append_assoc front (a ∷ b ∷ []) rest)

length_so_far : (w : SampleWidth) (k : ℕ) (raw : List ℕ) → length (bytes_of (map (at_16 w) (samples_of w k raw))) ≡ 2 * k
length_so_far w k raw = length-bytes_of (map (at_16 w) (samples_of w k raw))
    ∙ ap (λ n. 2 * n) (length-map (samples_of w k raw) (at_16 w) ∙ length-samples_of w k raw)

-- one more sample
pub converted_more : (w : SampleWidth) (raw was now : List ℕ) (k a b : ℕ) (z : ℤ) → 2 * k + 1 < length was
    → now ≡ bytes_of (map (at_16 w) (samples_of w k raw)) ++ drop (2 * k) was
    → z ≡ at_16 w (sample_at w (drop (byte_len w * k) raw)) → two_bytes z ≡ a ∷ b ∷ []
    → set (set now (2 * k) a) (2 * k + 1) b ≡ bytes_of (map (at_16 w) (samples_of w (k + 1) raw)) ++ drop (2 * (k + 1)) was
converted_more w raw was now k a b z room so_far same pair =
    ap (λ xs. set (set xs (2 * k) a) (2 * k + 1) b) so_far
    ∙ put_pair (bytes_of (map (at_16 w) (samples_of w k raw))) was k a b (length_so_far w k raw) room
    ∙ ap (λ xs. (bytes_of (map (at_16 w) (samples_of w k raw)) ++ xs) ++ drop (2 * (k + 1)) was) (sym pair ∙ ap two_bytes same)
    ∙ ap (λ xs. xs ++ drop (2 * (k + 1)) was) (sym (bytes_of-push (at_16 w) (samples_of w k raw) (sample_at w (drop (byte_len w * k) raw)))
    ∙ ap (λ zs. bytes_of (map (at_16 w) zs)) (sym (samples_of-more w k raw)))
