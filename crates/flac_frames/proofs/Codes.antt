-- Codes of residuals.
use Rattle.std.proofs.Common.{◌≡◌, ℕ, ◌+◌, ◌-◌, ◌*◌, ◌^◌, ◌<◌, ◌≤◌, arith}
use Rattle.flac_frames.proofs.BitLists.{word_fits, pow_le}

pub code_fits : (q m p r : ℕ) → m ≡ 2 ^ p → q ≤ 4294967294 → p ≤ 30 → r < 2 ^ p → q * m + r < 2 ^ 62
code_fits q m p r e hq hp hr =
    let h : q * 2 ^ p + r < 2 ^ (32 + p) = word_fits q 32 r p (omega arith) hr in
    let l : 2 ^ (32 + p) ≤ 2 ^ 62 = pow_le (32 + p) 62 (omega arith) in
    rw e (omega arith)

-- a parameter that is not the escape code
pub parameter_small : (bits p m : ℕ) → bits ≤ 5 → m ≡ 2 ^ bits → p < 2 ^ bits → (p ≡ m - 1 → ⊥) → p ≤ 30
parameter_small bits p m most e h other =
    let l : 2 ^ bits ≤ 2 ^ 5 = pow_le bits 5 most in
    omega arith
