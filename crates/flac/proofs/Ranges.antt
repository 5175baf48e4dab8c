-- Numbers and texts at the front of a range of the file.
use Rattle.std.proofs.Common.{◌≡◌, ℕ, ◌+◌, ◌-◌, ◌<◌, ◌≤◌, List, [], ◌∷◌, length, take, drop, arith, ap, ◌∙◌, sym, refl, slice_range, true, false}
use Rattle.std.specs.Prelude.{nat_le}
use Rattle.std.specs.Int.{w32, from_le_bytes, from_be_bytes}
use Rattle.std.proofs.lemmas.List.{length-take, length-drop, take-take, drop-drop}
use Rattle.song_files.proofs.Ranges.{range_is, take-range, drop-range}
use Rattle.flac.specs.Numbers.{le32, be32}

le_bytes-take : (xs : List ℕ) → from_le_bytes w32 (take 4 xs) ≡ from_le_bytes w32 xs
le_bytes-take [] = refl
le_bytes-take (a ∷ []) = refl
le_bytes-take (a ∷ b ∷ []) = refl
le_bytes-take (a ∷ b ∷ c ∷ []) = refl
le_bytes-take (a ∷ b ∷ c ∷ d ∷ xs) = refl

pub be_bytes-take : (xs : List ℕ) → be32 (take 4 xs) ≡ be32 xs
be_bytes-take [] = refl
be_bytes-take (a ∷ []) = refl
be_bytes-take (a ∷ b ∷ []) = refl
be_bytes-take (a ∷ b ∷ c ∷ []) = refl
be_bytes-take (a ∷ b ∷ c ∷ d ∷ xs) = refl

pub length_range : (file : List ℕ) (at end : ℕ) → end ≤ length file → length (slice_range file at end) ≡ end - at
length_range file at end within = omega (arith, length-take (end - at) (drop at file), length-drop at file)

-- what is read of the front of a range
pub front_is : (file : List ℕ) (at n end : ℕ) → at + n ≤ end → take n (slice_range file at end) ≡ slice_range file at (at + n)
front_is file at n end room =
    let e : end ≡ at + (end - at) = omega arith in
    ap (λ k. take n (slice_range file at k)) e ∙ take-range file at n (end - at) (omega arith)

-- and of what stands behind
pub back_is : (file : List ℕ) (at n place end : ℕ) → at + n ≤ end → place ≡ at + n → drop n (slice_range file at end) ≡ slice_range file place end
back_is file at n place end room same =
    let e : end ≡ at + (end - at) = omega arith in
    ap (λ k. drop n (slice_range file at k)) e ∙ drop-range file at n (end - at) (omega arith)
    ∙ ap (λ k. slice_range file (at + n) k) (sym e) ∙ ap (λ k. slice_range file k end) (sym same)

pub middle_is : (file : List ℕ) (at n len place end : ℕ) → at + n + len ≤ end → place ≡ at + n
    → take len (drop n (slice_range file at end)) ≡ slice_range file place (place + len)
middle_is file at n len place end room same =
    ap (take len) (back_is file at n place end (omega arith) same) ∙ front_is file place len end (omega arith)

pub le32_is : (file : List ℕ) (at end : ℕ) → at + 4 ≤ end → le32 (slice_range file at end) ≡ le32 (slice_range file at (at + 4))
le32_is file at end room = sym (le_bytes-take (slice_range file at end)) ∙ ap le32 (front_is file at 4 end room)

-- the number of four bytes at a place of a range
pub be32_is : (file : List ℕ) (at n place end : ℕ) → at + n + 4 ≤ end → place ≡ at + n
    → be32 (drop n (slice_range file at end)) ≡ be32 (slice_range file place (place + 4))
be32_is file at n place end room same =
    ap be32 (back_is file at n place end (omega arith) same) ∙ sym (be_bytes-take (slice_range file place end))
    ∙ ap be32 (front_is file place 4 end (omega arith))
