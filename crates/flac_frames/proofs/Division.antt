-- The division of a byte by a table of remainders: division respects addition, which is `^`.
use Rattle.std.proofs.Common.{◌≡◌, ℕ, zero, suc, ◌+◌, ◌*◌, ◌/◌, ◌%◌, ◌^◌, ◌<◌, ◌⊎◌, inl, inr, Bool, true, false, cond, eqb, List, [], ◌∷◌, length, refl, sym, ap, ◌∙◌, arith}
use Rattle.std.specs.Int.{bit_at}
use Rattle.std.specs.Int.RustNames.{bit_xor}
use Rattle.std.specs.Int.Bits.{xor_zero_l, xor_zero_r, xor_self, xor_assoc}
use Rattle.std.proofs.lemmas.Bool.{agree_below_at, eqb-true}
use Rattle.std.proofs.lemmas.Nat.{xor_comm, xor_block, xor_mod}
use Rattle.std.proofs.lemmas.Nat.Bits.{bit_at_xor, bit_at-lt}
use Rattle.flac_frames.specs.Bits.{bits_of_number}
use Rattle.flac_frames.specs.Crc.{differ, divided, remainder_after}
use Rattle.flac_frames.specs.CrcBytes.{after_byte}
use Rattle.flac_frames.proofs.BitLists.{length-bits_of_number}

one_bit : (x : ℕ) → x < 2 → (x ≡ 0) ⊎ (x ≡ 1)
one_bit zero h = inl refl
one_bit (suc zero) h = inr refl
one_bit (suc (suc x)) h = absurd (omega arith)

sum_bit : (x y : ℕ) → x < 2 → y < 2 → eqb ((x + y) % 2) 1 ≡ differ (eqb x 1) (eqb y 1)
sum_bit x y hx hy = elim (one_bit x hx) [
  | inl a ↦ elim (one_bit y hy) [ inl b ↦ rw (a, b) refl | inr b ↦ rw (a, b) refl ]
  | inr a ↦ elim (one_bit y hy) [ inl b ↦ rw (a, b) refl | inr b ↦ rw (a, b) refl ]
]

-- a bit of a sum
bit_sum : (r s k : ℕ) → eqb (bit_at (bit_xor r s) k) 1 ≡ differ (eqb (bit_at r k) 1) (eqb (bit_at s k) 1)
bit_sum r s k = rw (bit_at_xor r s k) (sum_bit (bit_at r k) (bit_at s k) (bit_at-lt r k) (bit_at-lt s k))

moved_sum : (r s : ℕ) → bit_xor r s * 2 % 2 ^ 16 ≡ bit_xor (r * 2 % 2 ^ 16) (s * 2 % 2 ^ 16)
moved_sum r s =
    let b : bit_xor (r * 2 + 0) (s * 2 + 0) ≡ bit_xor r s * 2 + bit_xor 0 0 = xor_block 1 r s 0 0 (omega arith) (omega arith) in
    let er : r * 2 + 0 ≡ r * 2 = omega arith in
    let es : s * 2 + 0 ≡ s * 2 = omega arith in
    let z : bit_xor 0 0 ≡ 0 = xor_self 0 in
    let c : bit_xor (r * 2) (s * 2) ≡ bit_xor r s * 2 + bit_xor 0 0 = rw (er, es) at b in
    let d : bit_xor r s * 2 ≡ bit_xor (r * 2) (s * 2) = omega (arith, c, z) in
    rw d (xor_mod (r * 2) (s * 2) 16)

four_sums : (a b c d : Bool) → differ (differ a b) (differ c d) ≡ differ (differ a c) (differ b d)
four_sums true true true true = refl
four_sums true true true false = refl
four_sums true true false true = refl
four_sums true true false false = refl
four_sums true false true true = refl
four_sums true false true false = refl
four_sums true false false true = refl
four_sums true false false false = refl
four_sums false true true true = refl
four_sums false true true false = refl
four_sums false true false true = refl
four_sums false true false false = refl
four_sums false false true true = refl
four_sums false false true false = refl
four_sums false false false true = refl
four_sums false false false false = refl

chosen_sum : (b c : Bool) (p : ℕ) → cond (differ b c) p 0 ≡ bit_xor (cond b p 0) (cond c p 0)
chosen_sum true true p = sym (xor_self p)
chosen_sum true false p = sym (xor_zero_r p)
chosen_sum false true p = sym (xor_zero_l p)
chosen_sum false false p = sym (xor_self 0)

swapped : (a b c d : ℕ) → bit_xor (bit_xor a b) (bit_xor c d) ≡ bit_xor (bit_xor a c) (bit_xor b d)
swapped a b c d =
    xor_assoc a b (bit_xor c d) ∙ ap (bit_xor a) (sym (xor_assoc b c d) ∙ ap (λ z. bit_xor z d) (xor_comm b c) ∙ xor_assoc c b d)
    ∙ sym (xor_assoc a c (bit_xor b d))

-- a step of the division as a sum
step_sum : (r : ℕ) (b : Bool) → divided 16 0x8005 r b ≡ bit_xor (r * 2 % 2 ^ 16) (cond (differ (eqb (bit_at r 15) 1) b) 0x8005 0)
unfolding divided
step_sum r b = by_case (differ (eqb (bit_at r 15) 1) b) (r * 2 % 2 ^ 16)
  where
    by_case : (t : Bool) (m : ℕ) → cond t (bit_xor m 0x8005) m ≡ bit_xor m (cond t 0x8005 0)
    by_case true m = refl
    by_case false m = sym (xor_zero_r m)

divided_sum : (r s : ℕ) (b c : Bool) → divided 16 0x8005 (bit_xor r s) (differ b c) ≡ bit_xor (divided 16 0x8005 r b) (divided 16 0x8005 s c)
divided_sum r s b c =
    let t : differ (eqb (bit_at (bit_xor r s) 15) 1) (differ b c) ≡ differ (differ (eqb (bit_at r 15) 1) b) (differ (eqb (bit_at s 15) 1) c)
    = ap (λ z. differ z (differ b c)) (bit_sum r s 15) ∙ four_sums (eqb (bit_at r 15) 1) (eqb (bit_at s 15) 1) b c in
    let p : cond (differ (eqb (bit_at (bit_xor r s) 15) 1) (differ b c)) 0x8005 0
    ≡ bit_xor (cond (differ (eqb (bit_at r 15) 1) b) 0x8005 0) (cond (differ (eqb (bit_at s 15) 1) c) 0x8005 0)
    = ap (λ z. cond z 0x8005 0) t ∙ chosen_sum (differ (eqb (bit_at r 15) 1) b) (differ (eqb (bit_at s 15) 1) c) 0x8005 in
    step_sum (bit_xor r s) (differ b c)
    ∙ ap (λ m. bit_xor m (cond (differ (eqb (bit_at (bit_xor r s) 15) 1) (differ b c)) 0x8005 0)) (moved_sum r s)
    ∙ ap (bit_xor (bit_xor (r * 2 % 2 ^ 16) (s * 2 % 2 ^ 16))) p
    ∙ swapped (r * 2 % 2 ^ 16) (s * 2 % 2 ^ 16) (cond (differ (eqb (bit_at r 15) 1) b) 0x8005 0) (cond (differ (eqb (bit_at s 15) 1) c) 0x8005 0)
    ∙ ap (λ z. bit_xor z (bit_xor (s * 2 % 2 ^ 16) (cond (differ (eqb (bit_at s 15) 1) c) 0x8005 0))) (sym (step_sum r b))
    ∙ ap (bit_xor (divided 16 0x8005 r b)) (sym (step_sum s c))

-- bits added one by one
abbrev sums : List Bool → List Bool → List Bool
sums [] ys = []
sums (x ∷ xs) [] = []
sums (x ∷ xs) (y ∷ ys) = differ x y ∷ sums xs ys

bits_sum : (n v w : ℕ) → bits_of_number n (bit_xor v w) ≡ sums (bits_of_number n v) (bits_of_number n w)
unfolding bits_of_number
bits_sum zero v w = refl
bits_sum (suc n) v w =
    let h : eqb (bit_at (bit_xor v w) n) 1 ≡ differ (eqb (bit_at v n) 1) (eqb (bit_at w n) 1) = bit_sum v w n in
    let t : bits_of_number n (bit_xor v w) ≡ sums (bits_of_number n v) (bits_of_number n w) = bits_sum n v w in
    rw (h, t) refl

after_sum : (xs ys : List Bool) (r s : ℕ) → length xs ≡ length ys
    → remainder_after 16 0x8005 (bit_xor r s) (sums xs ys) ≡ bit_xor (remainder_after 16 0x8005 r xs) (remainder_after 16 0x8005 s ys)
unfolding remainder_after
after_sum [] [] r s h = refl
after_sum [] (y ∷ ys) r s h = absurd (omega arith)
after_sum (x ∷ xs) [] r s h = absurd (omega arith)
after_sum (x ∷ xs) (y ∷ ys) r s h =
    ap (λ z. remainder_after 16 0x8005 z (sums xs ys)) (divided_sum r s x y) ∙ after_sum xs ys (divided 16 0x8005 r x) (divided 16 0x8005 s y) (omega arith)

bytes_sum : (r s v w : ℕ) → after_byte 16 0x8005 (bit_xor r s) (bit_xor v w) ≡ bit_xor (after_byte 16 0x8005 r v) (after_byte 16 0x8005 s w)
bytes_sum r s v w =
    rw (bits_sum 8 v w) (after_sum (bits_of_number 8 v) (bits_of_number 8 w) r s (length-bits_of_number 8 v ∙ sym (length-bits_of_number 8 w)))

-- a high byte that is divided by itself leaves nothing, a low one with a zero byte moves up
same_byte : (v : ℕ) → v < 256 → after_byte 16 0x8005 (v * 256) v ≡ 0
unfolding bits_of_number remainder_after divided
same_byte v h = eqb-true _ _ (agree_below_at (λ n. eqb (after_byte 16 0x8005 (n * 256) n) 0) (λ n. true) 256 v refl h)

low_byte : (v : ℕ) → v < 256 → after_byte 16 0x8005 v 0 ≡ v * 256
unfolding bits_of_number remainder_after divided
low_byte v h = eqb-true _ _ (agree_below_at (λ n. eqb (after_byte 16 0x8005 n 0) (n * 256)) (λ n. true) 256 v refl h)

high_byte : (v b : ℕ) → v < 256 → after_byte 16 0x8005 (v * 256) b ≡ after_byte 16 0x8005 0 (bit_xor v b)
high_byte v b h =
    let s : after_byte 16 0x8005 (bit_xor (v * 256) (v * 256)) (bit_xor v b) ≡ bit_xor (after_byte 16 0x8005 (v * 256) v) (after_byte 16 0x8005 (v * 256) b)
    = bytes_sum (v * 256) (v * 256) v b in
    let z : bit_xor (v * 256) (v * 256) ≡ 0 = xor_self (v * 256) in
    sym (rw (z, same_byte v h) at s ∙ xor_zero_l (after_byte 16 0x8005 (v * 256) b))

pub byte_by_table : (r b : ℕ) → r < 65536 → after_byte 16 0x8005 r b ≡ bit_xor (r % 256 * 256) (after_byte 16 0x8005 0 (bit_xor (r / 256) b))
byte_by_table r b h =
    let parts : bit_xor (r / 256 * 256 + 0) (0 * 256 + r % 256) ≡ bit_xor (r / 256) 0 * 256 + bit_xor 0 (r % 256) = xor_block 8 (r / 256) 0 0 (r % 256) (omega arith) (omega arith) in
    let ea : r / 256 * 256 + 0 ≡ r / 256 * 256 = omega arith in
    let eb : 0 * 256 + r % 256 ≡ r % 256 = omega arith in
    let p : bit_xor (r / 256 * 256) (r % 256) ≡ bit_xor (r / 256) 0 * 256 + bit_xor 0 (r % 256) = rw (ea, eb) at parts in
    let whole : bit_xor (r / 256 * 256) (r % 256) ≡ r = p ∙ rw (xor_zero_r (r / 256), xor_zero_l (r % 256)) (omega arith) in
    let s : after_byte 16 0x8005 (bit_xor (r / 256 * 256) (r % 256)) (bit_xor b 0) ≡ bit_xor (after_byte 16 0x8005 (r / 256 * 256) b) (after_byte 16 0x8005 (r % 256) 0)
    = bytes_sum (r / 256 * 256) (r % 256) b 0 in
    let t : after_byte 16 0x8005 r b ≡ bit_xor (after_byte 16 0x8005 (r / 256 * 256) b) (after_byte 16 0x8005 (r % 256) 0) = rw (whole, xor_zero_r b) at s in
    t ∙ rw (high_byte (r / 256) b (omega arith), low_byte (r % 256) (omega arith)) (xor_comm (after_byte 16 0x8005 0 (bit_xor (r / 256) b)) (r % 256 * 256))
