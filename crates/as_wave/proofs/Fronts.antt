-- The format by the first 40 bytes of its chunk.
use Rattle.std.proofs.Common.{◌≡◌, ◌+◌, ◌≤◌, ℕ, List, length, take, drop, ap, ◌∙◌, sym, refl, arith, lit≤, inl, inr, Bool, [], ◌∷◌, ◌++◌}
use Rattle.std.proofs.Common.{slice_range, min}
use Rattle.std.specs.Prelude.{Option, None, option_and_then, nat_le, ◌==◌, ◌&&◌, ◌||◌, not, if◌then◌else◌}
use Rattle.std.specs.Int.{w16, w32, from_le_bytes}
use Rattle.std.specs.Str.{bytes_eq}
use Rattle.std.proofs.lemmas.Bool.{cases_lt}
use Rattle.std.proofs.lemmas.Bool.Decides.{nat_tests}
use Rattle.std.proofs.lemmas.List.{take-take, drop-take, take_all, take_at, length-take}
use Rattle.wave_pcm.specs.Format.{u16_at, u32_at}
use Rattle.wave_pcm.proofs.ChunkList.{le_bytes-take, take_front}
use Rattle.song_files.proofs.Ranges.{range_is}
use Rattle.as_wave.specs.Format.{width_of, judged, pcm_guid, sample_format}
use Rattle.as_wave.specs.declared.format.SampleFormat.{SampleFormat}

le16-take : (xs : List ℕ) → from_le_bytes w16 (take 2 xs) ≡ from_le_bytes w16 xs
le16-take [] = refl
le16-take (a ∷ []) = refl
le16-take (a ∷ b ∷ xs) = refl

u16_at-take : (at m : ℕ) (body : List ℕ) → 2 ≤ m → u16_at at (take (at + m) body) ≡ u16_at at body
u16_at-take at m body room = ap (from_le_bytes w16) (drop-take at m body) ∙ sym (le16-take (take m (drop at body)))
    ∙ ap (from_le_bytes w16) (take-take 2 m (drop at body) room) ∙ le16-take (drop at body)

u32_at-take : (at m : ℕ) (body : List ℕ) → 4 ≤ m → u32_at at (take (at + m) body) ≡ u32_at at body
u32_at-take at m body room = ap (from_le_bytes w32) (drop-take at m body) ∙ sym (le_bytes-take (take m (drop at body)))
    ∙ ap (from_le_bytes w32) (take-take 4 m (drop at body) room) ∙ le_bytes-take (drop at body)

-- by the fields, whether there are 16 bytes and 40, and the sub-format
by_fields : ℕ → ℕ → ℕ → ℕ → ℕ → ℕ → Bool → Bool → List ℕ → Option SampleFormat
by_fields tag channels rate align bits valid some more guid =
    if some && (tag == 1 || (tag == 0xFFFE && more && nat_le valid bits && bytes_eq guid pcm_guid)) && not (tag == 1 && bits == 16)
    then option_and_then (judged channels rate align) (width_of bits) else None

format_is : (b : List ℕ) → sample_format b ≡ by_fields (u16_at 0 b) (u16_at 2 b) (u32_at 4 b) (u16_at 12 b) (u16_at 14 b) (u16_at 18 b)
    (nat_le 16 (length b)) (nat_le 40 (length b)) (take 16 (drop 24 b))
unfolding by_fields
format_is b = refl

long_front : (body : List ℕ) → 40 ≤ length body → sample_format (take 40 body) ≡ sample_format body
long_front body long =
    let b = take 40 body in
    let count : length b ≡ 40 = omega (arith, length-take 40 body) in
    let some : nat_le 16 (length b) ≡ nat_le 16 (length body) = grind (arith, nat_tests) in
    let more : nat_le 40 (length b) ≡ nat_le 40 (length body) = grind (arith, nat_tests) in
    let guid : take 16 (drop 24 b) ≡ take 16 (drop 24 body) = ap (take 16) (drop-take 24 16 body) ∙ take-take 16 16 (drop 24 body) (lit≤ tt) in
    format_is b
    ∙ ap (λ n. by_fields n (u16_at 2 b) (u32_at 4 b) (u16_at 12 b) (u16_at 14 b) (u16_at 18 b) (nat_le 16 (length b)) (nat_le 40 (length b)) (take 16 (drop 24 b))) (u16_at-take 0 40 body (lit≤ tt))
    ∙ ap (λ n. by_fields (u16_at 0 body) n (u32_at 4 b) (u16_at 12 b) (u16_at 14 b) (u16_at 18 b) (nat_le 16 (length b)) (nat_le 40 (length b)) (take 16 (drop 24 b))) (u16_at-take 2 38 body (lit≤ tt))
    ∙ ap (λ n. by_fields (u16_at 0 body) (u16_at 2 body) n (u16_at 12 b) (u16_at 14 b) (u16_at 18 b) (nat_le 16 (length b)) (nat_le 40 (length b)) (take 16 (drop 24 b))) (u32_at-take 4 36 body (lit≤ tt))
    ∙ ap (λ n. by_fields (u16_at 0 body) (u16_at 2 body) (u32_at 4 body) n (u16_at 14 b) (u16_at 18 b) (nat_le 16 (length b)) (nat_le 40 (length b)) (take 16 (drop 24 b))) (u16_at-take 12 28 body (lit≤ tt))
    ∙ ap (λ n. by_fields (u16_at 0 body) (u16_at 2 body) (u32_at 4 body) (u16_at 12 body) n (u16_at 18 b) (nat_le 16 (length b)) (nat_le 40 (length b)) (take 16 (drop 24 b))) (u16_at-take 14 26 body (lit≤ tt))
    ∙ ap (λ n. by_fields (u16_at 0 body) (u16_at 2 body) (u32_at 4 body) (u16_at 12 body) (u16_at 14 body) n (nat_le 16 (length b)) (nat_le 40 (length b)) (take 16 (drop 24 b))) (u16_at-take 18 22 body (lit≤ tt))
    ∙ ap (λ t. by_fields (u16_at 0 body) (u16_at 2 body) (u32_at 4 body) (u16_at 12 body) (u16_at 14 body) (u16_at 18 body) t (nat_le 40 (length b)) (take 16 (drop 24 b))) some
    ∙ ap (λ t. by_fields (u16_at 0 body) (u16_at 2 body) (u32_at 4 body) (u16_at 12 body) (u16_at 14 body) (u16_at 18 body) (nat_le 16 (length body)) t (take 16 (drop 24 b))) more
    ∙ ap (λ xs. by_fields (u16_at 0 body) (u16_at 2 body) (u32_at 4 body) (u16_at 12 body) (u16_at 14 body) (u16_at 18 body) (nat_le 16 (length body)) (nat_le 40 (length body)) xs) guid
    ∙ sym (format_is body)

pub sample_format-take : (body : List ℕ) → sample_format (take 40 body) ≡ sample_format body
sample_format-take body = elim (cases_lt (length body) 40) as (λ _. sample_format (take 40 body) ≡ sample_format body) [
  | inl short ↦ ap sample_format (take_all 40 body (omega arith))
  | inr long ↦ long_front body long
]

-- the front of a range
pub front_of : (file : List ℕ) (first len count : ℕ) → count ≡ min len 40
    → sample_format (slice_range file first (first + count)) ≡ sample_format (slice_range file first (first + len))
front_of file first len count same =
    ap sample_format (range_is file first count ∙ ap (λ n. take n (drop first file)) (same ∙ min_comm len 40) ∙ sym (take_front 40 len (drop first file)))
    ∙ sample_format-take (take len (drop first file)) ∙ ap sample_format (sym (range_is file first len))
  where
    min_comm : (a b : ℕ) → min a b ≡ min b a
    min_comm a b = omega arith

-- what was read to the front of a buffer
pub front_read : (file zeros buffer : List ℕ) (first len count : ℕ) → length zeros ≡ 40 → count ≡ min len 40
    → length buffer ≡ length (take count zeros) → buffer ≡ slice_range file first (first + length (take count zeros))
    → sample_format (take count (buffer ++ drop count zeros)) ≡ sample_format (slice_range file first (first + len))
front_read file zeros buffer first len count all same long filled =
    let n : length (take count zeros) ≡ count = omega (arith, length-take count zeros) in
    ap sample_format (take_at buffer (drop count zeros) count (long ∙ n) ∙ filled ∙ ap (λ k. slice_range file first (first + k)) n)
    ∙ front_of file first len count same
