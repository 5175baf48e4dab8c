-- The samples of some frames, by their place in the file.
use Rattle.std.proofs.Common.{◌≡◌, ◌≤◌, ℕ, zero, suc, ◌+◌, ◌-◌, ◌*◌, min, List, [], ◌∷◌, take, drop, ap, ◌∙◌, sym}
use Rattle.std.proofs.Common.{refl, arith, slice_range, inl, inr, ℤ, Some, pos, get_or, set, length, ◌<◌, ◌++◌}
use Rattle.std.proofs.Common.{append_assoc}
use Rattle.std.proofs.lemmas.Bool.{cases_lt}
use Rattle.std.proofs.lemmas.List.{drop-take, drop-drop, drop_all, length-take, drop_more, set_at, length-take-le}
use Rattle.std.proofs.lemmas.List.{take_more, take_all, append-nil}
use Rattle.std.proofs.Math.Nat.{mul-le-mul_left}
use Rattle.std.specs.Int.{w16, from_le_bytes, cast_signed}
use Rattle.wave_pcm.specs.Pcm.{samples_in, frames_from, range_from}
use Rattle.wave_pcm.specs.declared.info.WaveInfo.{WaveInfo}
use Rattle.wave_pcm.proofs.ChunkList.{take_front}
use Rattle.song_files.proofs.Ranges.{range_is}

abbrev sample_of : ℕ → ℕ → ℤ
sample_of low high = cast_signed w16 (from_le_bytes w16 (low ∷ high ∷ []))

samples_in-take : (k : ℕ) (xs : List ℕ) → take k (samples_in xs) ≡ samples_in (take (2 * k) xs)
samples_in-take zero xs = refl
samples_in-take (suc k) [] = let e : 2 * suc k ≡ suc (suc (2 * k)) = omega arith in rw e refl
samples_in-take (suc k) (b ∷ []) = let e : 2 * suc k ≡ suc (suc (2 * k)) = omega arith in rw e refl
samples_in-take (suc k) (a ∷ b ∷ xs) = let e : 2 * suc k ≡ suc (suc (2 * k)) = omega arith in
    rw e (ap (λ ys. sample_of a b ∷ ys) (samples_in-take k xs))

samples_in-drop : (k : ℕ) (xs : List ℕ) → drop k (samples_in xs) ≡ samples_in (drop (2 * k) xs)
samples_in-drop zero xs = refl
samples_in-drop (suc k) [] = let e : 2 * suc k ≡ suc (suc (2 * k)) = omega arith in rw e refl
samples_in-drop (suc k) (b ∷ []) = let e : 2 * suc k ≡ suc (suc (2 * k)) = omega arith in rw e refl
samples_in-drop (suc k) (a ∷ b ∷ xs) = let e : 2 * suc k ≡ suc (suc (2 * k)) = omega arith in rw e (samples_in-drop k xs)

-- at most m bytes from the d-th on, of n bytes
part_before : (file : List ℕ) (first n d m : ℕ) → d ≤ n
    → take m (drop d (take n (drop first file))) ≡ take (min m (n - d)) (drop (first + d) file)
part_before file first n d m within =
    let e : n ≡ d + (n - d) = omega arith in
    ap (λ k. take m (drop d (take k (drop first file)))) e
    ∙ ap (take m) (drop-take d (n - d) (drop first file) ∙ ap (take (n - d)) (drop-drop d first file))
    ∙ take_front m (n - d) (drop (first + d) file)

take_none : (k : ℕ) → take {A = ℕ} k [] ≡ []
take_none zero = refl
take_none (suc k) = refl

part_past : (file : List ℕ) (first n d m : ℕ) → n ≤ d → take m (drop d (take n (drop first file))) ≡ []
part_past file first n d m past = ap (take m) (drop_all d (take n (drop first file)) (omega (
  arith,
  length-take n (drop first
      file),
))) ∙ take_none m

-- the frames that are left
least_bytes : (l most d : ℕ) → min (l * most) (l * d) ≡ l * min d most
least_bytes l most d = elim (cases_lt d most) as (λ _. min (l * most) (l * d) ≡ l * min d most) [
  | inl few ↦ (let a : min d most ≡ d = omega arith in let b : l * d ≤ l * most = mul-le-mul_left l (omega arith) in rw a (omega arith))
  | inr many ↦ (let a : min d most ≡ most = omega arith in let b : l * most ≤ l * d = mul-le-mul_left l (omega arith) in rw a (omega arith))
]

left_over : (l from t : ℕ) → l * (from + t) - l * from ≡ l * t
left_over l from t = omega arith

part_is : (file : List ℕ) (first l frames from most : ℕ)
    → take (l * most) (drop (l * from) (take (l * frames) (drop first file))) ≡ take (l * min (frames - min from frames) most)
    (drop (first + l * min from frames) file)
part_is file first l frames from most = elim (cases_lt frames from) as (λ _. take (l * most) (drop (l * from) (take (l * frames)
    (drop first file))) ≡ take (l * min (frames - min from frames) most) (drop (first + l * min from frames) file)) [
      | inl past ↦ (let a : min (frames - min from frames) most ≡ 0 = omega arith in
          let b : l * frames ≤ l * from = mul-le-mul_left l (omega arith) in
          let z : l * 0 ≡ 0 = omega arith in
          rw (a, z) (part_past file first (l * frames) (l * from) (l * most) b))
      | inr within ↦ (let a : min from frames ≡ from = omega arith in
          let b : l * from ≤ l * frames = mul-le-mul_left l within in
          let e : frames ≡ from + (frames - from) = omega arith in
          let d : l * frames - l * from ≡ l * (frames - from) = ap (λ k. l * k - l * from) e ∙ left_over l from (frames - from) in
          rw a (part_before file first (l * frames) (l * from) (l * most) b
          ∙ ap (λ k. take k (drop (first + l * from) file)) (ap (min (l * most)) d ∙ least_bytes l most (frames - from))))
    ]

pub frames_are : (file : List ℕ) (info : WaveInfo) (from most : ℕ)
    → frames_from file info from most ≡ samples_in (slice_range file (range_from info from most).0 ((range_from info from most).0 +
    (range_from info from most).1))
frames_are file info from most =
    let c = info.channels in
    let l = 2 * info.channels in
    let area = slice_range file info.first_byte (info.first_byte + l * info.frames) in
    let e : 2 * (c * most) ≡ l * most = omega arith in
    let f : 2 * (c * from) ≡ l * from = omega arith in
    ap (take (c * most)) (samples_in-drop (c * from) area)
    ∙ samples_in-take (c * most) (drop (2 * (c * from)) area)
    ∙ ap samples_in
    (ap (λ k. take k (drop (2 * (c * from)) area)) e ∙ ap (λ k. take (l * most) (drop k area)) f
    ∙ ap (λ bytes. take (l * most) (drop (l * from) bytes)) (range_is file info.first_byte (l * info.frames))
    ∙ part_is file info.first_byte l info.frames from most
    ∙ sym (range_is file (info.first_byte + l * min from info.frames) (l * min (info.frames - min from info.frames) most)))

pub some_same : (p q : ℕ × ℕ) → Some p ≡ Some q → p ≡ q
some_same p q same = cc

length-samples_in : (n : ℕ) (bytes : List ℕ) → length bytes ≡ 2 * n → length (samples_in bytes) ≡ n
length-samples_in zero [] long = refl
length-samples_in zero (a ∷ bytes) long = absurd (omega arith)
length-samples_in (suc n) [] long = absurd (omega arith)
length-samples_in (suc n) (a ∷ []) long = absurd (omega arith)
length-samples_in (suc n) (a ∷ b ∷ bytes) long = ap suc (length-samples_in n bytes (omega arith))

sample_at : (i : ℕ) (bytes : List ℕ) → 2 * i + 1 < length bytes
    → get_or (samples_in bytes) i (pos 0) ≡ sample_of (get_or bytes (2 * i) 0) (get_or bytes (2 * i + 1) 0)
sample_at i [] within = absurd (omega arith)
sample_at i (a ∷ []) within = absurd (omega arith)
sample_at zero (a ∷ b ∷ bytes) within = refl
sample_at (suc i) (a ∷ b ∷ bytes) within =
    let e : 2 * suc i ≡ suc (suc (2 * i)) = omega arith in
    let f : suc (suc (2 * i)) + 1 ≡ suc (suc (2 * i + 1)) = omega arith in
    rw (e, f) (sample_at i bytes (omega arith))

put_next : (all was : List ℤ) (i : ℕ) (v : ℤ) → i < length all → i < length was → v ≡ get_or all i (pos 0)
    → set (take i all ++ drop i was) i v ≡ take (i + 1) all ++ drop (i + 1) was
put_next all was i v within room same =
    ap (λ rest. set (take i all ++ rest) i v) (drop_more was i (pos 0) room)
    ∙ set_at (take i all) (get_or was i (pos 0)) (drop (i + 1) was) v i (length-take-le i all (omega arith))
    ∙ ap (λ x. take i all ++ x ∷ drop (i + 1) was) same
    ∙ sym (append_assoc (take i all) (get_or all i (pos 0) ∷ []) (drop (i + 1) was))
    ∙ ap (λ front. front ++ drop (i + 1) was) (sym (take_more all i (pos 0) within))

-- one more sample
pub decoded_more : (bytes : List ℕ) (was now : List ℤ) (i : ℕ) (v : ℤ) → length bytes ≡ 2 * length was → i < length was
    → now ≡ take i (samples_in bytes) ++ drop i was → v ≡ sample_of (get_or bytes (2 * i) 0) (get_or bytes (2 * i + 1) 0)
    → set now i v ≡ take (i + 1) (samples_in bytes) ++ drop (i + 1) was
decoded_more bytes was now i v long within so_far same =
    ap (λ xs. set xs i v) so_far
    ∙ put_next (samples_in bytes) was i v (omega (arith, length-samples_in (length was) bytes long)) within (same
    ∙ sym (sample_at i bytes (omega arith)))

-- all of them
pub decoded_all : (bytes : List ℕ) (was now : List ℤ) (i : ℕ) → length bytes ≡ 2 * length was → length was ≤ i
    → now ≡ take i (samples_in bytes) ++ drop i was → now ≡ samples_in bytes
decoded_all bytes was now i long past so_far =
    let count : length (samples_in bytes) ≡ length was = length-samples_in (length was) bytes long in
    so_far ∙ ap (λ rest. take i (samples_in bytes) ++ rest) (drop_all i was past) ∙ append-nil (take i (samples_in bytes))
    ∙ take_all i (samples_in bytes) (omega arith)
