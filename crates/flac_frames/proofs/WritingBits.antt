-- What bits write is read back from them.
use Rattle.std.proofs.Common.{◌≡◌, ℕ, zero, suc, ◌+◌, ◌-◌, ◌*◌, ◌/◌, ◌%◌, ◌^◌, ◌<◌, ◌≤◌, ◌==◌, Bool, true, false, List, ◌++◌, length, take, drop, refl, sym, ◌∙◌, ap, arith, if◌then◌else◌, length-append, Ok, ℤ, pos, negsuc}
use Rattle.std.specs.Prelude.{nat_le, nat_lt}
use Rattle.std.proofs.Math.Arith.{mod-mul}
use Rattle.std.proofs.Math.Nat.{pow-succ', mod-eq_of_lt, div-eq_of_lt}
use Rattle.std.proofs.lemmas.Nat.{pow_pos, mod_below, div_below, le-div, mod-mul-add}
use Rattle.std.proofs.Math.Seq.{take-append_seam, drop-append_seam}
use Rattle.flac_frames.specs.Bits.{bits_of_number, number_of, signed_of, fits}
use Rattle.flac_frames.specs.Reading.{front, unsigned, signed, unary, one_more}
use Rattle.flac_frames.specs.Choices.{bits_of_signed, unary_bits}

pub length-bits_of_number : (n x : ℕ) → length (bits_of_number n x) ≡ n
unfolding bits_of_number
length-bits_of_number zero x = refl
length-bits_of_number (suc n) x = ap suc (length-bits_of_number n x)

-- a digit of two, as what a bit counts
bit_of_digit : (d p : ℕ) → d < 2 → (if d == 1 then p else 0) ≡ d * p
bit_of_digit zero p h = omega arith
bit_of_digit (suc zero) p h = omega arith
bit_of_digit (suc (suc d)) p h = absurd (omega arith)

digit_below : (x n : ℕ) → x / 2 ^ n % 2 < 2
digit_below x n = mod_below (x / 2 ^ n) 2 (omega arith)

pub number_of-bits : (n x : ℕ) → number_of (bits_of_number n x) ≡ x % 2 ^ n
unfolding bits_of_number number_of
number_of-bits zero x = omega arith
number_of-bits (suc n) x =
    let here : (if x / 2 ^ n % 2 == 1 then 2 ^ length (bits_of_number n x) else 0) ≡ x / 2 ^ n % 2 * 2 ^ n =
    rw (length-bits_of_number n x) (bit_of_digit (x / 2 ^ n % 2) (2 ^ n) (digit_below x n)) in
    let whole : x % 2 ^ suc n ≡ x / 2 ^ n % 2 * 2 ^ n + x % 2 ^ n =
    rw (pow-succ' 2 n) (mod-mul x (omega arith) (pow_pos n)) in
    rw here (rw (number_of-bits n x) (sym whole))

-- so many bits in front of others are read
pub front-prefix : (n : ℕ) (bits rest : List Bool) → length bits ≡ n → front n (bits ++ rest) ≡ Ok (record { value = bits; rest = rest })
unfolding front
front-prefix n bits rest e =
    let fits : nat_le n (length (bits ++ rest)) ≡ true = grind (arith, length-append) in
    let taken : take n (bits ++ rest) ≡ bits = rw (sym e) (take-append_seam bits rest) in
    let left : drop n (bits ++ rest) ≡ rest = rw (sym e) (drop-append_seam bits rest) in
    rw fits (rw taken (rw left refl))

pub unsigned-bits : (n x : ℕ) (rest : List Bool) → x < 2 ^ n → unsigned n (bits_of_number n x ++ rest) ≡ Ok (record { value = x; rest = rest })
unfolding unsigned
unsigned-bits n x rest h =
    let value : number_of (bits_of_number n x) ≡ x = number_of-bits n x ∙ mod-eq_of_lt h in
    rw (front-prefix n (bits_of_number n x) rest (length-bits_of_number n x)) (rw value refl)

-- the first bit of a number in so many bits and one more
first_bit_low : (n v : ℕ) → v < 2 ^ n → (v / 2 ^ n % 2 == 1) ≡ false
first_bit_low n v h = let none : v / 2 ^ n ≡ 0 = div-eq_of_lt h in rw none refl

first_bit_high : (n v : ℕ) → 2 ^ n ≤ v → v < 2 * 2 ^ n → (v / 2 ^ n % 2 == 1) ≡ true
first_bit_high n v low high =
    let below : v / 2 ^ n < 2 = div_below v (2 ^ n) 2 (pow_pos n) high in
    let above : 1 ≤ v / 2 ^ n = le-div 1 v (2 ^ n) (pow_pos n) (omega arith) in
    let one : v / 2 ^ n ≡ 1 = omega arith in
    rw one refl

signed_of-low : (n v : ℕ) → v < 2 ^ n → signed_of (bits_of_number (suc n) v) ≡ pos v
unfolding bits_of_number signed_of
signed_of-low n v h =
    let value : number_of (bits_of_number n v) ≡ v = number_of-bits n v ∙ mod-eq_of_lt h in
    rw (first_bit_low n v h) (ap pos value)

signed_of-high : (n x : ℕ) → x < 2 ^ n → signed_of (bits_of_number (suc n) (2 ^ suc n - 1 - x)) ≡ negsuc x
unfolding bits_of_number signed_of
signed_of-high n x h =
    let double : 2 ^ suc n ≡ 2 * 2 ^ n = pow-succ' 2 n in
    let high : (2 ^ suc n - 1 - x) / 2 ^ n % 2 == 1 ≡ true = first_bit_high n (2 ^ suc n - 1 - x) (omega arith) (omega arith) in
    let split : 2 ^ suc n - 1 - x ≡ 1 * 2 ^ n + (2 ^ n - 1 - x) = omega arith in
    let low : (2 ^ suc n - 1 - x) % 2 ^ n ≡ 2 ^ n - 1 - x = rw split (mod-mul-add 1 (2 ^ n) (2 ^ n - 1 - x) (omega arith)) in
    let value : number_of (bits_of_number n (2 ^ suc n - 1 - x)) ≡ 2 ^ n - 1 - x = number_of-bits n (2 ^ suc n - 1 - x) ∙ low in
    rw high (rw (length-bits_of_number n (2 ^ suc n - 1 - x)) (rw value (ap negsuc (omega arith))))

fits_below : (n x : ℕ) → nat_lt x (2 ^ (suc n - 1)) ≡ true → x < 2 ^ n
fits_below n x h = let same : suc n - 1 ≡ n = omega arith in let lt : nat_lt x (2 ^ n) ≡ true = rw same at h in grind arith

pub signed-bits : (n : ℕ) (x : ℤ) (rest : List Bool) → fits (suc n) x ≡ true
    → signed (suc n) (bits_of_signed (suc n) x ++ rest) ≡ Ok (record { value = x; rest = rest })
unfolding signed
signed-bits n (pos x) rest h =
    rw (front-prefix (suc n) (bits_of_number (suc n) x) rest (length-bits_of_number (suc n) x))
    (rw (signed_of-low n x (fits_below n x h)) refl)
signed-bits n (negsuc x) rest h =
    rw (front-prefix (suc n) (bits_of_number (suc n) (2 ^ suc n - 1 - x)) rest (length-bits_of_number (suc n) (2 ^ suc n - 1 - x)))
    (rw (signed_of-high n x (fits_below n x h)) refl)

pub unary-bits : (n : ℕ) (rest : List Bool) → unary (unary_bits n ++ rest) ≡ Ok (record { value = n; rest = rest })
unfolding unary
unary-bits zero rest = refl
unary-bits (suc n) rest = let before : unary (unary_bits n ++ rest) ≡ Ok (record { value = n; rest = rest }) = unary-bits n rest in ap one_more before
