-- Samples as bytes, two a sample and the low one first, and back.
use Rattle.std.proofs.Common.{◌≡◌, ◌≤◌, ◌<◌, ◌+◌, ◌*◌, ◌/◌, ◌%◌, ◌^◌, ℕ, zero, suc, List, [], ◌∷◌, ◌++◌, length, take, drop, map, get_or, set}
use Rattle.std.proofs.Common.{refl, sym, ap, ◌∙◌, arith, ℤ, pos, w8, w16, Fits}
use Rattle.std.specs.Int.{from_le_bytes, cast_signed, cast_unsigned}
use Rattle.std.specs.Prelude.{FitsSigned, int_div}
use Rattle.std.proofs.lemmas.Int.{of_z-to_z, to_z-of_z, ints}
use Rattle.std.proofs.lemmas.List.{drop_all, take_all, append-nil}
use Rattle.wave_pcm.specs.Pcm.{samples_in, at_volume}
use Rattle.song_output.specs.Sound.{sample_bytes, bytes_of}
use lib.IntN.{negsuc, neg_ℤ}

abbrev pub sample_of : ℕ → ℕ → ℤ
sample_of low high = cast_signed w16 (from_le_bytes w16 (low ∷ high ∷ []))

-- the bytes of a sample that was read
pub bytes_back : (low high : ℕ) → low < 256 → high < 256 → sample_bytes (sample_of low high) ≡ low ∷ high ∷ []
bytes_back low high l h =
    let n : ℕ = low + high * 256 in
    let fits : low + high * 256 < 2 ^ 16 = omega arith in
    let e : cast_unsigned w16 (cast_signed w16 (low + high * 256)) ≡ low + high * 256 = of_z-to_z w16 (low + high * 256) fits in
    let a : (low + high * 256) % 256 ≡ low = omega arith in
    let b : (low + high * 256) / 256 % 256 ≡ high = omega arith in
    ap (λ m. m % 256 ∷ m / 256 % 256 ∷ []) e ∙ (rw (a, b) refl)

-- the sample of bytes that were written
pub sample_back : (z : ℤ) → FitsSigned w16 z → cast_signed w16 (from_le_bytes w16 (sample_bytes z)) ≡ z
sample_back z fits =
    let u : cast_unsigned w16 z < 2 ^ 16 = omega (arith, ints) in
    let e : cast_unsigned w16 z % 256 + cast_unsigned w16 z / 256 % 256 * 256 ≡ cast_unsigned w16 z = omega arith in
    ap (cast_signed w16) e ∙ to_z-of_z w16 z fits

whole_quotient : (n : ℕ) → n * 100 / 100 ≡ n
whole_quotient n = omega arith

-- at full volume
full : (z : ℤ) → at_volume 100 z ≡ z
full (pos n) = ap pos (whole_quotient n)
full (negsuc n) =
    let e : suc n * 100 ≡ suc (n * 100 + 99) = omega arith in
    let q : suc (n * 100 + 99) / 100 ≡ suc n = omega arith in
    ap (λ m. int_div (neg_ℤ (pos m)) (pos 100)) e ∙ ap (λ m. neg_ℤ (pos m)) q

all_full : (samples : List ℤ) → map (at_volume 100) samples ≡ samples
all_full [] = refl
all_full (z ∷ samples) = ap (λ x. x ∷ map (at_volume 100) samples) (full z) ∙ ap (λ xs. z ∷ xs) (all_full samples)

bytes_kept : (bytes : List ℕ) → length bytes % 2 ≡ 0 → ((i : ℕ) → Fits w8 (get_or bytes i 0)) → bytes_of (samples_in bytes) ≡ bytes
bytes_kept [] whole fits = refl
bytes_kept (a ∷ []) whole fits = absurd (omega arith)
bytes_kept (a ∷ b ∷ bytes) whole fits =
    let la : a < 256 = omega (arith, fits 0) in
    let lb : b < 256 = omega (arith, fits 1) in
    ap (λ pair. pair ++ bytes_of (samples_in bytes)) (bytes_back a b la lb)
    ∙ ap (λ rest. a ∷ b ∷ rest) (bytes_kept bytes (omega arith) (λ i. fits (suc (suc i))))

-- at full volume all bytes stay
pub kept_at_full : (bytes : List ℕ) (volume : ℕ) → volume ≡ 100 → length bytes % 2 ≡ 0 → ((i : ℕ) → Fits w8 (get_or bytes i 0))
    → bytes ≡ bytes_of (map (at_volume volume) (samples_in bytes))
kept_at_full bytes volume full whole fits =
    sym (ap (λ v. bytes_of (map (at_volume v) (samples_in bytes))) full ∙ ap bytes_of (all_full (samples_in bytes))
    ∙ bytes_kept bytes whole fits)

-- where so many samples were changed
abbrev pub changed : (ℤ → ℤ) → ℕ → List ℕ → List ℕ
changed f k was = bytes_of (map f (take k (samples_in was))) ++ drop (2 * k) was

behind : (f : ℤ → ℤ) (k d : ℕ) (was : List ℕ) → 2 * k + d < length was → get_or (changed f k was) (2 * k + d) 0 ≡ get_or was (2 * k + d) 0
behind f zero d was within = refl
behind f (suc k) d [] within = absurd (omega arith)
behind f (suc k) d (a ∷ []) within = absurd (omega arith)
behind f (suc k) d (a ∷ b ∷ was) within =
    let e : 2 * suc k ≡ suc (suc (2 * k)) = omega arith in
    let p : 2 * suc k + d ≡ suc (suc (2 * k + d)) = omega arith in
    rw (p, e) (behind f k d was (omega arith))

one_more : (f : ℤ → ℤ) (k low high : ℕ) (was : List ℕ) → 2 * k + 1 < length was
    → low ∷ high ∷ [] ≡ sample_bytes (f (sample_of (get_or was (2 * k) 0) (get_or was (2 * k + 1) 0)))
    → set (set (changed f k was) (2 * k) low) (2 * k + 1) high ≡ changed f (k + 1) was
one_more f k low high [] within value = absurd (omega arith)
one_more f k low high (a ∷ []) within value = absurd (omega arith)
one_more f zero low high (a ∷ b ∷ was) within value = ap (λ pair. pair ++ was) value
one_more f (suc k) low high (a ∷ b ∷ was) within value =
    let e : 2 * suc k ≡ suc (suc (2 * k)) = omega arith in
    let p : 2 * suc k + 1 ≡ suc (suc (2 * k + 1)) = omega arith in
    let n : suc k + 1 ≡ suc (k + 1) = omega arith in
    let m : 2 * (suc k + 1) ≡ suc (suc (2 * (k + 1))) = omega arith in
    let here : low ∷ high ∷ [] ≡ sample_bytes (f (sample_of (get_or was (2 * k) 0) (get_or was (2 * k + 1) 0))) = rw (p, e) at value in
    rw (m, p, e, n) (ap (λ rest. sample_bytes (f (sample_of a b)) ++ rest) (one_more f k low high was (omega arith) here))

-- one sample more: what its bytes were, and what they are
pub changed_more : (f : ℤ → ℤ) (k : ℕ) (pair : List ℕ) (value : ℤ) (was now : List ℕ) → 2 * k + 1 < length was → now ≡ changed f k was
    → pair ≡ sample_bytes value → value ≡ f (sample_of (get_or now (2 * k) 0) (get_or now (2 * k + 1) 0))
    → set (set now (2 * k) (get_or pair 0 0)) (2 * k + 1) (get_or pair 1 0) ≡ changed f (k + 1) was
changed_more f k pair value was now within so_far bytes same =
    let z : 2 * k + 0 ≡ 2 * k = omega arith in
    let low : get_or now (2 * k) 0 ≡ get_or was (2 * k) 0 =
    ap (λ xs. get_or xs (2 * k) 0) so_far ∙ (rw z at (behind f k 0 was (omega arith))) in
    let high : get_or now (2 * k + 1) 0 ≡ get_or was (2 * k + 1) 0 =
    ap (λ xs. get_or xs (2 * k + 1) 0) so_far ∙ behind f k 1 was within in
    let here : value ≡ f (sample_of (get_or was (2 * k) 0) (get_or was (2 * k + 1) 0)) =
    same ∙ ap (λ b. f (sample_of b (get_or now (2 * k + 1) 0))) low ∙ ap (λ b. f (sample_of (get_or was (2 * k) 0) b)) high in
    let first : get_or pair 0 0 ≡ get_or (sample_bytes value) 0 0 = ap (λ xs. get_or xs 0 0) bytes in
    let second : get_or pair 1 0 ≡ get_or (sample_bytes value) 1 0 = ap (λ xs. get_or xs 1 0) bytes in
    ap (λ xs. set (set xs (2 * k) (get_or pair 0 0)) (2 * k + 1) (get_or pair 1 0)) so_far
    ∙ ap (λ b. set (set (changed f k was) (2 * k) b) (2 * k + 1) (get_or pair 1 0)) first
    ∙ ap (λ b. set (set (changed f k was) (2 * k) (get_or (sample_bytes value) 0 0)) (2 * k + 1) b) second
    ∙ one_more f k (get_or (sample_bytes value) 0 0) (get_or (sample_bytes value) 1 0) was within (ap sample_bytes here)

length-samples_in : (bytes : List ℕ) (k : ℕ) → length bytes ≤ 2 * k + 1 → length (samples_in bytes) ≤ k
length-samples_in [] k few = omega arith
length-samples_in (a ∷ []) k few = omega arith
length-samples_in (a ∷ b ∷ bytes) zero few = absurd (omega arith)
length-samples_in (a ∷ b ∷ bytes) (suc k) few = let rest : length (samples_in bytes) ≤ k = length-samples_in bytes k (omega arith) in omega arith

-- all of them
pub changed_all : (f : ℤ → ℤ) (k : ℕ) (was now : List ℕ) → length was % 2 ≡ 0 → length was / 2 ≤ k → now ≡ changed f k was
    → now ≡ bytes_of (map f (samples_in was))
changed_all f k was now whole past so_far =
    so_far ∙ ap (λ rest. bytes_of (map f (take k (samples_in was))) ++ rest) (drop_all (2 * k) was (omega arith))
    ∙ append-nil (bytes_of (map f (take k (samples_in was))))
    ∙ ap (λ samples. bytes_of (map f samples)) (take_all k (samples_in was) (length-samples_in was k (omega arith)))
