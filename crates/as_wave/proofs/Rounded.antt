-- Samples that are moved up or rounded, in integers of 128 bits.
use Rattle.std.proofs.Common.{◌≡◌, ◌+◌, ◌-◌, ◌*◌, ◌%◌, ◌^◌, ◌<◌, ◌≤◌, ℕ, ℤ, pos, negsuc, ◌+ℤ◌, ◌*ℤ◌, to_z, of_z, w16, w64, ap, ◌∙◌, sym, subst, arith}
use Rattle.std.specs.Prelude.{FitsSigned, unsigned_abs}
use Rattle.std.specs.Int.{saturate_signed, int_max, int_min, int_shr}
use Rattle.std.specs.Int.Signed.{shr_z, mag_shr, mag}
use Rattle.std.proofs.lemmas.Int.{ints, to_z-of_z, fits_signed_mul}
use Rattle.std.proofs.Math.Nat.{pow-le-pow_right}
use mir.Syntax.{w128}
use mir.Val.{SFits}
use Rattle.as_wave.specs.Samples.{rounded}

clamp_is : (z : ℤ) → int_max (negsuc 32767) (int_min z (pos 32767)) ≡ saturate_signed w16 z
clamp_is (pos n) = grind (arith, ints)
clamp_is (negsuc n) = grind (arith, ints)

saturated : (z : ℤ) → FitsSigned w16 (saturate_signed w16 z)
saturated (pos n) = record { sfits = omega arith }
saturated (negsuc n) = record { sfits = omega arith }

clamped : (r z : ℤ) → r ≡ int_max (negsuc 32767) (int_min z (pos 32767)) → to_z w16 (of_z w16 (to_z w128 (of_z w128 r))) ≡ saturate_signed w16 z
clamped r z same =
    let s : r ≡ saturate_signed w16 z = same ∙ clamp_is z in
    let small : FitsSigned w16 r = subst (λ (x : ℤ). FitsSigned w16 x) (sym s) (saturated z) in
    let wide : FitsSigned w128 r = record { sfits = omega (arith, small.sfits) } in
    ap (λ (q : ℤ). to_z w16 (of_z w16 q)) (to_z-of_z w128 r wide) ∙ to_z-of_z w16 r small ∙ s

-- a power of two
pub power_small : (n : ℕ) → n ≤ 16 → 2 ^ n ≤ 65536
power_small n few = pow-le-pow_right {n = 2} (omega arith) few

power_is : (p : ℕ) → p ≤ 65536 → to_z w128 (1 * p % 340282366920938463463374607431768211456) ≡ pos p
power_is p few = let e : 1 * p % 340282366920938463463374607431768211456 ≡ p = omega arith in rw e (grind (arith, ints))

wide_is : (from sample : ℤ) → SFits w64 sample → from ≡ sample → to_z w128 (of_z w128 from) ≡ sample
wide_is from sample fits same =
    let wide : FitsSigned w128 sample = record { sfits = omega (arith, fits.sfits) } in
    ap (λ (q : ℤ). to_z w128 (of_z w128 q)) same ∙ to_z-of_z w128 sample wide

abs_small : (sample : ℤ) → SFits w64 sample → unsigned_abs sample ≤ 2 ^ 63
abs_small (pos n) fits = omega (arith, ints, fits.sfits)
abs_small (negsuc n) fits = omega (arith, ints, fits.sfits)

pub moved_fits : (from sample : ℤ) (bits : ℕ) → bits ≤ 16 → SFits w64 sample → from ≡ sample
    → FitsSigned w128 (to_z w128 (of_z w128 from) *ℤ to_z w128 (1 * 2 ^ bits % 340282366920938463463374607431768211456))
moved_fits from sample bits few fits same =
    let p = power_small bits few in
    rw (wide_is from sample fits same, power_is (2 ^ bits) p) (fits_signed_mul w128 sample (pos (2 ^ bits)) (2 ^ 63) 65536 (abs_small sample
    fits) p (omega arith))

-- a sample moved up
pub moved_is : (from sample r : ℤ) (bits : ℕ) → bits ≤ 16 → SFits w64 sample → from ≡ sample
    → r ≡ int_max (negsuc 32767) (int_min (to_z w128 (of_z w128 (to_z w128 (of_z w128 from) *ℤ to_z w128 (1 * 2 ^ bits %
    340282366920938463463374607431768211456)))) (pos 32767))
    → to_z w16 (of_z w16 (to_z w128 (of_z w128 r))) ≡ saturate_signed w16 (sample *ℤ pos (2 ^ bits))
moved_is from sample r bits few fits same is =
    let p = power_small bits few in
    let product : FitsSigned w128 (sample *ℤ pos (2 ^ bits)) = fits_signed_mul w128 sample (pos (2 ^ bits)) (2 ^ 63) 65536 (abs_small sample
    fits) p (omega arith) in
    let a : to_z w128 (of_z w128 from) ≡ sample = wide_is from sample fits same in
    let b : to_z w128 (1 * 2 ^ bits % 340282366920938463463374607431768211456) ≡ pos (2 ^ bits) = power_is (2 ^ bits) p in
    clamped r (sample *ℤ pos (2 ^ bits)) (is
    ∙ ap (λ (q : ℤ). int_max (negsuc 32767) (int_min (to_z w128 (of_z w128 (q *ℤ to_z w128 (1 * 2 ^ bits %
    340282366920938463463374607431768211456)))) (pos 32767))) a
    ∙ ap (λ (q : ℤ). int_max (negsuc 32767) (int_min (to_z w128 (of_z w128 (sample *ℤ q))) (pos 32767))) b
    ∙ ap (λ (q : ℤ). int_max (negsuc 32767) (int_min q (pos 32767))) (to_z-of_z w128 (sample *ℤ pos (2 ^ bits)) product))

sum_fits : (sample : ℤ) (q : ℕ) → SFits w64 sample → q ≤ 65536 → FitsSigned w128 (sample +ℤ pos q)
sum_fits sample q fits few = let s = fits.sfits in grind (arith, ints)

-- a sample that is rounded
pub rounded_is : (from sample r : ℤ) (bits : ℕ) → bits ≤ 16 → SFits w64 sample → from ≡ sample
    → r ≡ int_max (negsuc 32767) (int_min (to_z w128 (of_z w128 (shr_z (to_z w128 (of_z w128 (to_z w128 (of_z w128 from) +ℤ to_z w128 (1 * 2
    ^ (bits - 1) % 340282366920938463463374607431768211456)))) (2 ^ bits)))) (pos 32767))
    → to_z w16 (of_z w16 (to_z w128 (of_z w128 r))) ≡ rounded bits sample
rounded_is from sample r bits few fits same is =
    let half = 2 ^ (bits - 1) in
    let p : 2 ^ (bits - 1) ≤ 65536 = power_small (bits - 1) (omega arith) in
    let x = sample +ℤ pos (2 ^ (bits - 1)) in
    let sum : FitsSigned w128 (sample +ℤ pos (2 ^ (bits - 1))) = sum_fits sample (2 ^ (bits - 1)) fits p in
    let shifted : FitsSigned w128 (shr_z (sample +ℤ pos (2 ^ (bits - 1))) (2 ^ bits)) = record {
      sfits = omega (
        arith,
        mag_shr (sample +ℤ pos (2 ^ (bits - 1))) (2 ^ bits),
        sum.sfits,
      );
    } in
    let a : to_z w128 (of_z w128 from) ≡ sample = wide_is from sample fits same in
    let b : to_z w128 (1 * 2 ^ (bits - 1) % 340282366920938463463374607431768211456) ≡ pos (2 ^ (bits - 1)) = power_is (2 ^ (bits - 1)) p in
    clamped r (shr_z (sample +ℤ pos (2 ^ (bits - 1))) (2 ^ bits)) (is
    ∙ ap (λ (q : ℤ). int_max (negsuc 32767) (int_min (to_z w128 (of_z w128 (shr_z (to_z w128 (of_z w128 (q +ℤ to_z w128 (1 * 2 ^ (bits - 1) %
    340282366920938463463374607431768211456)))) (2 ^ bits)))) (pos 32767))) a
    ∙ ap (λ (q : ℤ). int_max (negsuc 32767) (int_min (to_z w128 (of_z w128 (shr_z (to_z w128 (of_z w128 (sample +ℤ q))) (2 ^ bits)))) (pos 32767))) b
    ∙ ap (λ (q : ℤ). int_max (negsuc 32767) (int_min (to_z w128 (of_z w128 (shr_z q (2 ^ bits)))) (pos 32767))) (to_z-of_z w128 (sample +ℤ pos
    (2 ^ (bits - 1))) sum)
    ∙ ap (λ (q : ℤ). int_max (negsuc 32767) (int_min q (pos 32767))) (to_z-of_z w128 (shr_z (sample +ℤ pos (2 ^ (bits - 1))) (2 ^ bits)) shifted))
