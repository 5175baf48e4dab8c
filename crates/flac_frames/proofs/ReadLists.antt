-- Readings of bits that are put together.
use Rattle.std.proofs.Common.{◌≡◌, ℕ, suc, ◌+◌, ◌-◌, ◌*◌, ◌/◌, ◌%◌, ◌^◌, ◌<◌, ◌≤◌, Bool, true, false, List, ◌++◌, length, take, drop, leb, refl, sym, ap, ◌∙◌, arith, length-append, Ok, Err, append_assoc, inl, inr}
use Rattle.std.proofs.lemmas.Bool.{le-leb, lt-leb, cases_lt}
use Rattle.std.proofs.lemmas.List.{take_at, drop_at}
use Rattle.std.proofs.lemmas.Nat.{shr_below, pow_below, leading_top, mod-mul-add, one_shl}
use Rattle.std.specs.Int.RustNames.{bit_and}
use lib.Count.{count_leading_zeros}
use Rattle.flac_frames.specs.Bits.{bits_of_number, number_of}
use Rattle.flac_frames.specs.Reading.{front, unsigned, unary}
use Rattle.flac_frames.specs.declared.refusal.FrameError.TheVariants.{Ended}
use Rattle.flac_frames.proofs.BitLists.{split_bits, number_of-bits, length-bits_of_number, mask_is, top_unary, pow_le, pow-suc}

pub front_at : (n : ℕ) (xs ys : List Bool) → length xs ≡ n → front n (xs ++ ys) ≡ Ok (record { value = xs; rest = ys })
unfolding front
front_at n xs ys h =
    let l : leb n (length (xs ++ ys)) ≡ true = le-leb n (length (xs ++ ys)) (omega (arith, length-append xs ys)) in
    let t : take n (xs ++ ys) ≡ xs = take_at xs ys n h in
    let d : drop n (xs ++ ys) ≡ ys = drop_at xs ys n h in
    rw l (rw t (rw d refl))

pub front_short : (n : ℕ) (xs : List Bool) → length xs < n → front n xs ≡ Err Ended
unfolding front
front_short n xs h =
    let l : leb n (length xs) ≡ false = lt-leb n (length xs) h in
    rw l refl

pub small_mod : (x m : ℕ) → x < m → x % m ≡ x
small_mod x m h =
    let e : (0 * m + x) % m ≡ x = mod-mul-add 0 m x h in
    let s : 0 * m + x ≡ x = omega arith in
    rw s at e

-- a number in front
pub unsigned_at : (n v : ℕ) (rest : List Bool) → v < 2 ^ n → unsigned n (bits_of_number n v ++ rest) ≡ Ok (record { value = v; rest = rest })
unfolding unsigned
unsigned_at n v rest h =
    let f : front n (bits_of_number n v ++ rest) ≡ Ok (record { value = bits_of_number n v; rest = rest }) = front_at n (bits_of_number n v) rest (length-bits_of_number n v) in
    let v' : number_of (bits_of_number n v) ≡ v = number_of-bits n v ∙ small_mod v (2 ^ n) h in
    rw f (rw v' refl)

pub unsigned_short : (n : ℕ) (bits : List Bool) → length bits < n → unsigned n bits ≡ Err Ended
unfolding unsigned
unsigned_short n bits h = rw (front_short n bits h) refl

-- the first bits of a word
pub unsigned_word : (n keep count w : ℕ) (rest : List Bool) → n + keep ≡ count → w < 2 ^ count
    → unsigned n (bits_of_number count w ++ rest) ≡ Ok (record { value = w / 2 ^ keep; rest = bits_of_number keep (w % 2 ^ keep) ++ rest })
unsigned_word n keep count w rest e h =
    let s : bits_of_number (n + keep) w ≡ bits_of_number n (w / 2 ^ keep) ++ bits_of_number keep (w % 2 ^ keep) = split_bits n keep w in
    let h' : w < 2 ^ (n + keep) = rw e h in
    let small : w / 2 ^ keep < 2 ^ n = shr_below w n keep h' in
    let u : unsigned n (bits_of_number n (w / 2 ^ keep) ++ (bits_of_number keep (w % 2 ^ keep) ++ rest)) ≡ Ok (record { value = w / 2 ^ keep; rest = bits_of_number keep (w % 2 ^ keep) ++ rest }) = unsigned_at n (w / 2 ^ keep) (bits_of_number keep (w % 2 ^ keep) ++ rest) small in
    ap (λ z. unsigned n (bits_of_number z w ++ rest)) (sym e) ∙ (rw (s, append_assoc) u)

pub word_below : (n keep count w : ℕ) → n + keep ≡ count → w < 2 ^ count → w / 2 ^ keep < 2 ^ n
word_below n keep count w e h =
    let h' : w < 2 ^ (n + keep) = rw e h in
    shr_below w n keep h'

pub word_taken : (n count w : ℕ) (rest : List Bool) → n ≤ count → count < 64 → w < 2 ^ count
    → unsigned n (bits_of_number count w ++ rest)
    ≡ Ok (record { value = w / 2 ^ (count - n); rest = bits_of_number (count - n) (bit_and w (1 * 2 ^ (count - n) % 2 ^ 64 - 1)) ++ rest })
word_taken n count w rest h few small =
    let e : n + (count - n) ≡ count = omega arith in
    let m : bit_and w (1 * 2 ^ (count - n) % 2 ^ 64 - 1) ≡ w % 2 ^ (count - n) = mask_is w (count - n) (omega arith) in
    rw m (unsigned_word n (count - n) count w rest e small)

-- the place of the bit that a word begins with
abbrev pub top : ℕ → ℕ
top w = 63 - count_leading_zeros 64 w

pub record IsTop (count w : ℕ) : Type 0 where
  pub inside : top w < count
  pub low : 2 ^ top w ≤ w
  pub high : w < 2 ^ suc (top w)
  pub shifted : 1 * 2 ^ top w % 2 ^ 64 ≡ 2 ^ top w

not_above : (j count w : ℕ) → w < 2 ^ count → 2 ^ j ≤ w → j < count
not_above j count w small low = elim (cases_lt j count) [ inl h ↦ h | inr h ↦ absurd (omega (arith, pow_le count j h)) ]

pub top_is : (count w : ℕ) → 0 < w → w < 2 ^ count → count < 64 → IsTop count w
top_is count w some small few =
    let big : 2 ^ count < 2 ^ 64 = pow_below count 64 few in
    let t : (j : ℕ) × (count_leading_zeros 64 w + suc j ≡ 64) × (2 ^ j ≤ w) × (w < 2 ^ suc j) = leading_top 64 w some (omega arith) in
    let e : t.0 ≡ top w = omega (arith, t.1) in
    let low : 2 ^ top w ≤ w = rw e at t.2 in
    let high : w < 2 ^ suc (top w) = rw e at t.3 in
    record {
      inside = not_above (top w) count w small low;
      low = low;
      high = high;
      shifted = one_shl (top w) 64 (omega arith);
    }

pub unary_word : (count w : ℕ) (rest : List Bool) → IsTop count w
    → unary (bits_of_number count w ++ rest)
    ≡ Ok (record { value = count - top w - 1; rest = bits_of_number (top w) (w - 1 * 2 ^ top w % 2 ^ 64) ++ rest })
unary_word count w rest h =
    let s : count ≡ (count - top w - 1) + suc (top w) = omega (arith, h.inside) in
    let t : unary (bits_of_number ((count - top w - 1) + suc (top w)) w ++ rest)
    ≡ Ok (record { value = count - top w - 1; rest = bits_of_number (top w) (w - 2 ^ top w) ++ rest })
    = top_unary (count - top w - 1) (top w) w rest h.low h.high in
    let e : 1 * 2 ^ top w % 2 ^ 64 ≡ 2 ^ top w = h.shifted in
    ap (λ n. unary (bits_of_number n w ++ rest)) s ∙ rw e t

pub top_rest : (count w : ℕ) → IsTop count w → w - 1 * 2 ^ top w % 2 ^ 64 < 2 ^ top w
top_rest count w h = omega (arith, h.shifted, h.low, h.high, pow-suc (top w))
