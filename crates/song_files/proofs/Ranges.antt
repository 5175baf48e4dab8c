-- Ranges of a list, one behind the other.
use Rattle.std.proofs.Common.{◌≡◌, ℕ, ◌+◌, ◌-◌, ◌≤◌, List, ◌++◌, length, take, drop, arith, ap, ◌∙◌, sym, refl, slice_range}
use Rattle.std.proofs.Math.Seq.{take-add, take-append-add}
use Rattle.std.proofs.lemmas.List.{take-append-le, length-take-le, drop-drop, take-take, drop-take}
use borrow.Rule.Slice.PartMut.{put_mid, post_of}

-- a range of n bytes
pub range_is : (file : List ℕ) (at n : ℕ) → slice_range file at (at + n) ≡ take n (drop at file)
range_is file at n = let e : at + n - at ≡ n = omega arith in rw e refl

pub range_more : (file : List ℕ) (at f n : ℕ)
    → slice_range file at (at + (f + n)) ≡ slice_range file at (at + f) ++ slice_range file (at + f) (at + f + n)
range_more file at f n = rw (range_is file at (f + n), range_is file at f, range_is file (at + f) n, take-add f n (drop at file))
    (ap (λ x. take f (drop at file) ++ take n x) (drop-drop f at file))

-- after a read into the buffer behind what is filled
pub filled_more : (xs ys file : List ℕ) (f k n at : ℕ) → f ≤ length xs → n ≤ length ys
    → take f xs ≡ slice_range file at (at + f) → take n ys ≡ slice_range file (at + f) (at + f + n)
    → take (f + n) (put_mid f k xs ys) ≡ slice_range file at (at + (f + n))
filled_more xs ys file f k n at within few front back =
    let long : length (take f xs) ≡ f = length-take-le f xs within in
    let cut : take (length (take f xs) + n) (put_mid f k xs ys) ≡ take f xs ++ take n (ys ++ post_of f k xs) = take-append-add
    (take f xs) (ys ++ post_of f k xs) n in
    let same : take n (ys ++ post_of f k xs) ≡ take n ys = take-append-le n ys (post_of f k xs) few in
    ap (λ m. take (m + n) (put_mid f k xs ys)) (sym long) ∙ cut ∙ ap (λ z. take f xs ++ z) (same ∙ back)
    ∙ ap (λ z. z ++ slice_range file (at + f) (at + f + n)) front ∙ sym (range_more file at f n)

-- a front of a range
pub take-range : (file : List ℕ) (at n len : ℕ) → n ≤ len → take n (slice_range file at (at + len)) ≡ slice_range file at (at + n)
take-range file at n len few = rw (range_is file at len, range_is file at n) (take-take n len (drop at file) few)

-- and the rest of it
pub drop-range : (file : List ℕ) (at n len : ℕ) → n ≤ len → drop n (slice_range file at (at + len)) ≡ slice_range file (at + n) (at + len)
drop-range file at n len few =
    let e : at + len - at ≡ n + (at + len - (at + n)) = omega arith in
    ap (λ k. drop n (take k (drop at file))) e ∙ drop-take n (at + len - (at + n)) (drop at file)
    ∙ ap (take (at + len - (at + n))) (drop-drop n at file)
