-- The checksum, a byte at a time by a table.
use Rattle.std.proofs.Common.{◌≡◌, ℕ, zero, suc, ◌+◌, ◌*◌, ◌/◌, ◌%◌, ◌^◌, ◌<◌, Bool, true, false, cond, eqb, bit_xor, refl, sym, ap, ◌∙◌}
use Rattle.std.proofs.Common.{arith, pow-suc, pow_pos, mul_assoc, div-add-mod', mod-lt}
use Rattle.std.proofs.lemmas.Nat.{xor_block, xor_lt}
use lib.Bits.{xor_assoc, xor_zero_r}
use Rattle.state_codec.specs.Checksum.{POLYNOMIAL, with_bit, with_bits, with_byte}

-- what is told of the low bits alone
abbrev Splits : ℕ → Type 0
Splits n = (h l : ℕ) → l < 2 ^ n → with_bits n (h * 2 ^ n + l) ≡ bit_xor h (with_bits n l)

-- with the polynomial taken off
taken : (n poly h m : ℕ) → Splits n → m < 2 ^ n → with_bits n (bit_xor (h * 2 ^ n + m) poly) ≡ bit_xor h (with_bits n (bit_xor m poly))
taken n poly h m splits low =
    let high = poly / 2 ^ n in
    let rest = poly % 2 ^ n in
    let parts : poly ≡ high * 2 ^ n + rest = sym (div-add-mod' poly (2 ^ n)) in
    let below : rest < 2 ^ n = mod-lt poly (pow_pos n) in
    let nothing : m ≡ 0 * 2 ^ n + m = omega arith in
    let both : bit_xor (h * 2 ^ n + m) poly ≡ bit_xor h high * 2 ^ n + bit_xor m rest =
    ap (λ x. bit_xor (h * 2 ^ n + m) x) parts ∙ xor_block n h high m rest low below in
    let alone : bit_xor m poly ≡ high * 2 ^ n + bit_xor m rest =
    ap (λ x. bit_xor m x) parts ∙ ap (λ x. bit_xor x (high * 2 ^ n + rest)) nothing ∙ xor_block n 0 high m rest low below in
    let small : bit_xor m rest < 2 ^ n = xor_lt n m rest low below in
    ap (λ x. with_bits n x) both ∙ splits (bit_xor h high) (bit_xor m rest) small ∙ xor_assoc h high (with_bits n (bit_xor m rest))
    ∙ ap (λ x. bit_xor h x) (sym (ap (λ x. with_bits n x) alone ∙ splits high (bit_xor m rest) small))

halved : (b : Bool) (n poly h m : ℕ) → Splits n → m < 2 ^ n
    → with_bits n (cond b (bit_xor (h * 2 ^ n + m) poly) (h * 2 ^ n + m)) ≡ bit_xor h (with_bits n (cond b (bit_xor m poly) m))
halved true n poly h m splits low = taken n poly h m splits low
halved false n poly h m splits low = splits h m low

split_next : (n h l : ℕ) → Splits n → l < 2 ^ suc n → with_bits n (with_bit (h * 2 ^ suc n + l)) ≡ bit_xor h (with_bits n (with_bit l))
split_next n h l splits low =
    let p : ℕ = 2 ^ n in
    let q : ℕ = h * 2 ^ n in
    let double : h * 2 ^ suc n ≡ q * 2 = ap (λ x. h * x) (pow-suc 2 n) ∙ sym (mul_assoc h (2 ^ n) 2) in
    let twice : 2 ^ suc n ≡ p * 2 = pow-suc 2 n in
    let x : ℕ = h * 2 ^ suc n + l in
    let bit : x % 2 ≡ l % 2 = omega (arith, double) in
    let half : x / 2 ≡ q + l / 2 = omega (arith, double) in
    let small : l / 2 < 2 ^ n = omega (arith, low, twice) in
    ap (λ k. with_bits n (cond (eqb k 1) (bit_xor (x / 2) POLYNOMIAL) (x / 2))) bit
    ∙ ap (λ k. with_bits n (cond (eqb (l % 2) 1) (bit_xor k POLYNOMIAL) k)) half
    ∙ halved (eqb (l % 2) 1) n POLYNOMIAL h (l / 2) splits small

-- so many bits go from the low ones, and the high ones come down
pub splits : (n h l : ℕ) → l < 2 ^ n → with_bits n (h * 2 ^ n + l) ≡ bit_xor h (with_bits n l)
unfolding with_bits
splits zero h l low = let none : l ≡ 0 = omega arith in rw none (let whole : h * 1 + 0 ≡ h = omega arith in whole ∙ sym (xor_zero_r h))
splits (suc n) h l low = split_next n h l (splits n) low

-- a byte by a table of what eight bits become
pub by_table : (sum byte : ℕ) → byte < 256 → with_byte sum byte ≡ bit_xor (sum / 256) (with_bits 8 (bit_xor (sum % 256) byte))
by_table sum byte low =
    let parts : sum ≡ sum / 256 * 2 ^ 8 + sum % 256 = sym (div-add-mod' sum 256) in
    let below : sum % 256 < 2 ^ 8 = omega arith in
    let nothing : byte ≡ 0 * 2 ^ 8 + byte = omega arith in
    let both : bit_xor sum byte ≡ sum / 256 * 2 ^ 8 + bit_xor (sum % 256) byte =
    ap (λ x. bit_xor x byte) parts ∙ ap (λ x. bit_xor (sum / 256 * 2 ^ 8 + sum % 256) x) nothing
    ∙ xor_block 8 (sum / 256) 0 (sum % 256) byte below low ∙ ap (λ x. x * 2 ^ 8 + bit_xor (sum % 256) byte) (xor_zero_r (sum / 256)) in
    ap (λ x. with_bits 8 x) both ∙ splits 8 (sum / 256) (bit_xor (sum % 256) byte) (xor_lt 8 (sum % 256) byte below low)

pub one_bit : (n sum : ℕ) → with_bits (suc n) sum ≡ with_bits n (with_bit sum)
unfolding with_bits
one_bit n sum = refl

pub no_bit : (sum : ℕ) → with_bits 0 sum ≡ sum
unfolding with_bits
no_bit sum = refl
