-- Ranges of sums and products.
use Rattle.std.proofs.Common.{◌≡◌, ℕ, zero, suc, ◌+◌, ◌-◌, ◌*◌, ◌^◌, ◌<◌, ◌≤◌, true, arith, ℤ, pos, negsuc, ◌+ℤ◌, ◌-ℤ◌, ◌*ℤ◌, ◌≤ℤ◌, FitsSigned, neg_ℤ, sym, List}
use Rattle.std.proofs.lemmas.Bool.{ltb-true, lt-ltb}
use Rattle.std.proofs.lemmas.Int.{ints, unsigned_abs-mul, fits_signed_from_abs}
use Rattle.std.proofs.lemmas.Nat.{mul-le, shr_le, pow_pos, pow-add}
use Rattle.std.proofs.lemmas.List.Elements.{All-weaker}
use Rattle.flac_frames.specs.AllFit.{AllFit}
use Rattle.std.specs.Int.{w64, int_shr}
use Rattle.std.specs.Int.RustNames.{unsigned_abs}
use lib.Signed.{mag_shr}
use Rattle.flac_frames.specs.Bits.{fits}
use Rattle.flac_frames.proofs.BitLists.{pow_le}

pub abs_of : (width : ℕ) (z : ℤ) → fits width z ≡ true → unsigned_abs z ≤ 2 ^ (width - 1)
abs_of width (pos n) h = omega (arith, ltb-true n (2 ^ (width - 1)) h)
abs_of width (negsuc n) h = omega (arith, ltb-true n (2 ^ (width - 1)) h)

low_of : (z : ℤ) (m : ℕ) → unsigned_abs z ≤ m → (pos 0 -ℤ pos m) ≤ℤ z
low_of (pos n) m h = omega (arith, ints)
low_of (negsuc n) m h = omega (arith, ints)

high_of : (z : ℤ) (m : ℕ) → unsigned_abs z ≤ m → z ≤ℤ pos m
high_of (pos n) m h = omega (arith, ints)
high_of (negsuc n) m h = omega (arith, ints)

abs_from : (z : ℤ) (m : ℕ) → (pos 0 -ℤ pos m) ≤ℤ z → z ≤ℤ pos m → unsigned_abs z ≤ m
abs_from (pos n) m low high = omega (arith, ints)
abs_from (negsuc n) m low high = omega (arith, ints)

pub abs_add : (a b : ℤ) → unsigned_abs (a +ℤ b) ≤ unsigned_abs a + unsigned_abs b
abs_add a b =
    let la = low_of a (unsigned_abs a) (omega arith) in
    let ha = high_of a (unsigned_abs a) (omega arith) in
    let lb = low_of b (unsigned_abs b) (omega arith) in
    let hb = high_of b (unsigned_abs b) (omega arith) in
    abs_from (a +ℤ b) (unsigned_abs a + unsigned_abs b) (omega (arith, ints, la, lb)) (omega (arith, ints, ha, hb))

pub abs_product : (a b : ℤ) → fits 15 a ≡ true → fits 33 b ≡ true → unsigned_abs (a *ℤ b) ≤ 2 ^ 46
abs_product a b ha hb =
    omega (arith, unsigned_abs-mul a b, mul-le (unsigned_abs a) (unsigned_abs b) (2 ^ 14) (2 ^ 32) (abs_of 15 a ha) (abs_of 33 b hb))

pub product_fits : (a b : ℤ) → fits 15 a ≡ true → fits 33 b ≡ true → FitsSigned w64 (a *ℤ b)
product_fits a b ha hb = fits_signed_from_abs w64 (a *ℤ b) (omega (arith, abs_product a b ha hb))

pub sum_fits : (s a b : ℤ) → fits 15 a ≡ true → fits 33 b ≡ true → unsigned_abs s ≤ 2 ^ 51 → FitsSigned w64 (s +ℤ a *ℤ b)
sum_fits s a b ha hb hs = fits_signed_from_abs w64 (s +ℤ a *ℤ b) (omega (arith, abs_product a b ha hb, abs_add s (a *ℤ b)))

pub sum_bound : (s a b : ℤ) → fits 15 a ≡ true → fits 33 b ≡ true → unsigned_abs (s +ℤ a *ℤ b) ≤ unsigned_abs s + 2 ^ 46
sum_bound s a b ha hb = omega (arith, abs_product a b ha hb, abs_add s (a *ℤ b))

pub abs_shr : (z : ℤ) (k : ℕ) → unsigned_abs (int_shr z k) ≤ unsigned_abs z
abs_shr (pos n) k = shr_le n k
abs_shr (negsuc n) k = omega (arith, shr_le n k)

pub prediction_fits : (r s : ℤ) (k : ℕ) → fits 33 r ≡ true → unsigned_abs s ≤ 2 ^ 51 → FitsSigned w64 (r +ℤ int_shr s k)
prediction_fits r s k hr hs = fits_signed_from_abs w64 (r +ℤ int_shr s k) (omega (arith, abs_of 33 r hr, abs_shr s k, abs_add r (int_shr s k)))

pub shr_fits : (s : ℤ) (k : ℕ) → unsigned_abs s ≤ 2 ^ 51 → FitsSigned w64 (int_shr s k)
shr_fits s k hs = fits_signed_from_abs w64 (int_shr s k) (omega (arith, abs_shr s k))

pub fits_wider : (narrow wide : ℕ) (z : ℤ) → narrow ≤ wide → fits narrow z ≡ true → fits wide z ≡ true
fits_wider narrow wide (pos n) h f =
    lt-ltb n (2 ^ (wide - 1)) (omega (arith, ltb-true n (2 ^ (narrow - 1)) f, pow_le (narrow - 1) (wide - 1) (omega arith)))
fits_wider narrow wide (negsuc n) h f =
    lt-ltb n (2 ^ (wide - 1)) (omega (arith, ltb-true n (2 ^ (narrow - 1)) f, pow_le (narrow - 1) (wide - 1) (omega arith)))

fits_neg : (k width : ℕ) → k ≤ 2 ^ (width - 1) → fits width (neg_ℤ (pos k)) ≡ true
fits_neg zero width h = lt-ltb 0 (2 ^ (width - 1)) (pow_pos (width - 1))
fits_neg (suc n) width h = lt-ltb n (2 ^ (width - 1)) (omega arith)

power_parts : (c w : ℕ) → 1 ≤ c → 2 ^ (c + w - 1) ≡ 2 ^ (c - 1) * 2 ^ w
power_parts c w h =
    let e : c + w - 1 ≡ (c - 1) + w = omega arith in
    rw e (pow-add 2 (c - 1) w)

mul_lt_right : (a b m : ℕ) → 0 < m → a < b → a * m < b * m
mul_lt_right a b m h l =
    let s : suc a * m ≤ b * m = mul-le (suc a) m b m (omega arith) (omega arith) in
    omega arith

-- low bits that are zeros
pub widened_fits : (c w m : ℕ) (z : ℤ) → 1 ≤ c → m ≡ 2 ^ w → fits c z ≡ true → fits (c + w) (z *ℤ pos m) ≡ true
widened_fits c w m (pos n) least e f =
    let p : 2 ^ (c + w - 1) ≡ 2 ^ (c - 1) * 2 ^ w = power_parts c w least in
    let l : n * m < 2 ^ (c - 1) * m = mul_lt_right n (2 ^ (c - 1)) m (rw e (pow_pos w)) (ltb-true n (2 ^ (c - 1)) f) in
    lt-ltb (n * m) (2 ^ (c + w - 1)) (rw (p, sym e) l)
widened_fits c w m (negsuc n) least e f =
    let p : 2 ^ (c + w - 1) ≡ 2 ^ (c - 1) * 2 ^ w = power_parts c w least in
    let l : suc n * m ≤ 2 ^ (c - 1) * m = mul-le (suc n) m (2 ^ (c - 1)) m (omega (arith, ltb-true n (2 ^ (c - 1)) f)) (omega arith) in
    fits_neg (suc n * m) (c + w) (rw (p, sym e) l)

pub widened_in_64 : (c w m : ℕ) (z : ℤ) → 1 ≤ c → c + w ≤ 33 → m ≡ 2 ^ w → fits c z ≡ true → FitsSigned w64 (z *ℤ pos m)
widened_in_64 c w m z least most e f =
    let g : fits 33 (z *ℤ pos m) ≡ true = fits_wider (c + w) 33 (z *ℤ pos m) most (widened_fits c w m z least e f) in
    fits_signed_from_abs w64 (z *ℤ pos m) (omega (arith, abs_of 33 (z *ℤ pos m) g))

pub power_in_64 : (w m : ℕ) → w ≤ 33 → m ≡ 2 ^ w → m < 2 ^ 63
power_in_64 w m h e = omega (arith, pow_le w 33 h, e)

pub all_wider : (narrow wide : ℕ) (xs : List ℤ) → narrow ≤ wide → AllFit narrow xs → AllFit wide xs
all_wider narrow wide xs h all = All-weaker (λ z. fits narrow z ≡ true) (λ z. fits wide z ≡ true) (λ z. fits_wider narrow wide z h) xs all

abs_sub : (a b : ℤ) → unsigned_abs (a -ℤ b) ≤ unsigned_abs a + unsigned_abs b
abs_sub a b =
    let la = low_of a (unsigned_abs a) (omega arith) in
    let ha = high_of a (unsigned_abs a) (omega arith) in
    let lb = low_of b (unsigned_abs b) (omega arith) in
    let hb = high_of b (unsigned_abs b) (omega arith) in
    abs_from (a -ℤ b) (unsigned_abs a + unsigned_abs b) (omega (arith, ints, la, hb)) (omega (arith, ints, ha, lb))

abs_double : (a : ℤ) → unsigned_abs (pos 2 *ℤ a) ≡ 2 * unsigned_abs a
abs_double a = unsigned_abs-mul (pos 2) a

-- what the sum of left and right is made of
pub record SumParts (mid side : ℤ) : Type 0 where
  pub half : FitsSigned w64 (int_shr side 1)
  pub even : FitsSigned w64 (pos 2 *ℤ int_shr side 1)
  pub lowest : FitsSigned w64 (side -ℤ pos 2 *ℤ int_shr side 1)
  pub double : FitsSigned w64 (pos 2 *ℤ mid)
  pub total : FitsSigned w64 (pos 2 *ℤ mid +ℤ (side -ℤ pos 2 *ℤ int_shr side 1))
  pub bound : unsigned_abs (pos 2 *ℤ mid +ℤ (side -ℤ pos 2 *ℤ int_shr side 1)) ≤ 2 ^ 35

pub sum_parts : (mid side : ℤ) → fits 33 mid ≡ true → fits 33 side ≡ true → SumParts mid side
sum_parts mid side hm hs =
    let am = abs_of 33 mid hm in
    let side_abs = abs_of 33 side hs in
    let sh = abs_shr side 1 in
    let ev = abs_double (int_shr side 1) in
    let lo = abs_sub side (pos 2 *ℤ int_shr side 1) in
    let double_abs = abs_double mid in
    let to = abs_add (pos 2 *ℤ mid) (side -ℤ pos 2 *ℤ int_shr side 1) in
    record {
      half = fits_signed_from_abs w64 (int_shr side 1) (omega (arith, side_abs, sh));
      even = fits_signed_from_abs w64 (pos 2 *ℤ int_shr side 1) (omega (arith, side_abs, sh, ev));
      lowest = fits_signed_from_abs w64 (side -ℤ pos 2 *ℤ int_shr side 1) (omega (arith, side_abs, sh, ev, lo));
      double = fits_signed_from_abs w64 (pos 2 *ℤ mid) (omega (arith, am, double_abs));
      total = fits_signed_from_abs w64 (pos 2 *ℤ mid +ℤ (side -ℤ pos 2 *ℤ int_shr side 1)) (omega (arith, am, side_abs, sh, ev, lo, double_abs, to));
      bound = omega (arith, am, side_abs, sh, ev, lo, double_abs, to);
    }

pub added_fits : (s a : ℤ) → unsigned_abs s ≤ 2 ^ 35 → fits 33 a ≡ true → FitsSigned w64 (s +ℤ a)
added_fits s a hs ha = fits_signed_from_abs w64 (s +ℤ a) (omega (arith, abs_of 33 a ha, abs_add s a))

pub taken_fits : (s a : ℤ) → unsigned_abs s ≤ 2 ^ 35 → fits 33 a ≡ true → FitsSigned w64 (s -ℤ a)
taken_fits s a hs ha = fits_signed_from_abs w64 (s -ℤ a) (omega (arith, abs_of 33 a ha, abs_sub s a))

pub half_fits : (z : ℤ) → FitsSigned w64 z → FitsSigned w64 (int_shr z 1)
half_fits z h = record { sfits = omega (arith, mag_shr z (2 ^ 1), h.sfits) }
