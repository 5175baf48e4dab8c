-- Bits of numbers put together.
use Rattle.std.proofs.Common.{◌≡◌, ℕ, zero, suc, ◌+◌, ◌-◌, ◌*◌, ◌/◌, ◌%◌, ◌^◌, ◌<◌, ◌≤◌, Bool, List, [], ◌∷◌, ◌++◌, length, eqb, cond, refl, sym, ap, ◌∙◌, arith, append_assoc, zero-add, length-append, get_or, drop, take, Result, Ok, Err}
use Rattle.std.specs.Int.{bit_at}
use Rattle.std.proofs.lemmas.Nat.Bits.{bit_at_cat_low, bit_at_cat_high}
use Rattle.std.proofs.lemmas.Nat.{shr_split, mod_below, pow_pos, pow-add, mod-pow-add, mul-add-lt, pow_below, one_shl, and_mask, div-mul-add}
use Rattle.std.proofs.lemmas.List.{drop_more, take_rest, drop_all}
use Rattle.std.specs.Int.RustNames.{bit_and}
use Rattle.flac_frames.specs.Reading.{Read, unary, one_more}
use Rattle.flac_frames.specs.declared.refusal.FrameError.{FrameError}
use Rattle.flac_frames.specs.Bits.{bits_of_number, bits_of, number_of}

-- what stands above the bits says nothing
pub low_bits : (n k a b : ℕ) → n ≤ k → bits_of_number n (a * 2 ^ k + b) ≡ bits_of_number n b
unfolding bits_of_number
low_bits zero k a b h = refl
low_bits (suc n) k a b h =
    let here : bit_at (a * 2 ^ k + b) n ≡ bit_at b n = bit_at_cat_low a k b n (omega arith) in
    let there : bits_of_number n (a * 2 ^ k + b) ≡ bits_of_number n b = low_bits n k a b (omega arith) in
    cc

-- the bits of a number in two parts
pub cat_bits : (c k w v : ℕ) → v < 2 ^ k → bits_of_number (c + k) (w * 2 ^ k + v) ≡ bits_of_number c w ++ bits_of_number k v
unfolding bits_of_number
cat_bits zero k w v h = rw zero-add (low_bits k k w v (omega arith))
cat_bits (suc c) k w v h =
    let e : suc c + k ≡ suc (c + k) = omega arith in
    let here : bit_at (w * 2 ^ k + v) (c + k) ≡ bit_at w (c + k - k) = bit_at_cat_high w k v (c + k) h (omega arith) in
    let same : c + k - k ≡ c = omega arith in
    let there : bits_of_number (c + k) (w * 2 ^ k + v) ≡ bits_of_number c w ++ bits_of_number k v = cat_bits c k w v h in
    rw e (rw (there) (rw here (rw same refl)))

pub split_bits : (n keep w : ℕ) → bits_of_number (n + keep) w ≡ bits_of_number n (w / 2 ^ keep) ++ bits_of_number keep (w % 2 ^ keep)
split_bits n keep w =
    let e : w / 2 ^ keep * 2 ^ keep + w % 2 ^ keep ≡ w = shr_split w keep in
    let t : bits_of_number (n + keep) (w / 2 ^ keep * 2 ^ keep + w % 2 ^ keep) ≡ bits_of_number n (w / 2 ^ keep) ++ bits_of_number keep (w % 2 ^ keep) = cat_bits n keep (w / 2 ^ keep) (w % 2 ^ keep) (mod_below w (2 ^ keep) (pow_pos keep)) in
    rw e at t

pub length-bits_of_number : (n x : ℕ) → length (bits_of_number n x) ≡ n
unfolding bits_of_number
length-bits_of_number zero x = refl
length-bits_of_number (suc n) x = ap suc (length-bits_of_number n x)

pub length-bits_of : (bytes : List ℕ) → length (bits_of bytes) ≡ 8 * length bytes
unfolding bits_of
length-bits_of [] = refl
length-bits_of (b ∷ bytes) =
    let h : length (bits_of bytes) ≡ 8 * length bytes = length-bits_of bytes in
    let front : length (bits_of_number 8 b) ≡ 8 = length-bits_of_number 8 b in
    omega (arith, h, front, length-append (bits_of_number 8 b) (bits_of bytes))

-- a byte behind the word
pub byte_bits : (c w b : ℕ) (bytes : List ℕ) → b < 256 → bits_of_number (c + 8) (w * 256 + b) ++ bits_of bytes ≡ bits_of_number c w ++ bits_of (b ∷ bytes)
unfolding bits_of
byte_bits c w b bytes h = rw (cat_bits c 8 w b h) (append_assoc (bits_of_number c w) (bits_of_number 8 b) (bits_of bytes))

pub four_bytes_bits : (c w a b d e : ℕ) (bytes : List ℕ) → a < 256 → b < 256 → d < 256 → e < 256
    → bits_of_number (c + 32) (w * 4294967296 + ((a * 256 + b) * 65536 + (d * 256 + e))) ++ bits_of bytes
    ≡ bits_of_number c w ++ bits_of (a ∷ b ∷ d ∷ e ∷ bytes)
four_bytes_bits c w a b d e bytes ha hb hd he =
    let n1 : w * 4294967296 + ((a * 256 + b) * 65536 + (d * 256 + e)) ≡ (((w * 256 + a) * 256 + b) * 256 + d) * 256 + e = omega arith in
    let n2 : c + 32 ≡ c + 8 + 8 + 8 + 8 = omega arith in
    rw (n1, n2) (byte_bits (c + 8 + 8 + 8) (((w * 256 + a) * 256 + b) * 256 + d) e bytes he
    ∙ byte_bits (c + 8 + 8) ((w * 256 + a) * 256 + b) d (e ∷ bytes) hd
    ∙ byte_bits (c + 8) (w * 256 + a) b (d ∷ e ∷ bytes) hb
    ∙ byte_bits c w a (b ∷ d ∷ e ∷ bytes) ha)

bit_worth : (b p r : ℕ) → b < 2 → cond (eqb b 1) p 0 + r ≡ b * p + r
bit_worth zero p r h = omega arith
bit_worth (suc zero) p r h = omega arith
bit_worth (suc (suc b)) p r h = absurd (omega arith)

pub number_of-bits : (n x : ℕ) → number_of (bits_of_number n x) ≡ x % 2 ^ n
unfolding bits_of_number number_of
number_of-bits zero x = omega arith
number_of-bits (suc n) x =
    let ih : number_of (bits_of_number n x) ≡ x % 2 ^ n = number_of-bits n x in
    let len : length (bits_of_number n x) ≡ n = length-bits_of_number n x in
    let s : suc n ≡ 1 + n = omega arith in
    let m : x % 2 ^ (1 + n) ≡ (x / 2 ^ n % 2 ^ 1) * 2 ^ n + x % 2 ^ n = mod-pow-add x 1 n in
    let below : x / 2 ^ n % 2 < 2 = mod_below (x / 2 ^ n) 2 (omega arith) in
    rw (len, ih, s, m) (bit_worth (x / 2 ^ n % 2) (2 ^ n) (x % 2 ^ n) below)

-- so many more bits fit
pub word_fits : (w c v k : ℕ) → w < 2 ^ c → v < 2 ^ k → w * 2 ^ k + v < 2 ^ (c + k)
word_fits w c v k hw hv =
    let h : w * 2 ^ k + v < 2 ^ k * 2 ^ c = mul-add-lt w (2 ^ k) v (2 ^ c) hw hv in
    let e : 2 ^ (k + c) ≡ 2 ^ k * 2 ^ c = pow-add 2 k c in
    let t : c + k ≡ k + c = omega arith in
    rw (t, e) h

pub word_in_64 : (w c v k : ℕ) → w < 2 ^ c → v < 2 ^ k → c + k < 64 → w * 2 ^ k + v < 2 ^ 64
word_in_64 w c v k hw hv h =
    omega (arith, word_fits w c v k hw hv, pow_below (c + k) 64 h)

pub four_front : (xs : List ℕ) → 4 ≤ length xs → xs ≡ get_or xs 0 0 ∷ get_or xs 1 0 ∷ get_or xs 2 0 ∷ get_or xs 3 0 ∷ drop 4 xs
four_front [] h = absurd (omega arith)
four_front (a ∷ []) h = absurd (omega arith)
four_front (a ∷ b ∷ []) h = absurd (omega arith)
four_front (a ∷ b ∷ d ∷ []) h = absurd (omega arith)
four_front (a ∷ b ∷ d ∷ e ∷ xs) h = refl

pub byte_step : (c w b i : ℕ) (bytes : List ℕ) → i < length bytes → b ≡ get_or bytes i 0 → b < 256
    → bits_of_number (c + 8) (w * 256 + b) ++ bits_of (drop (i + 1) bytes) ≡ bits_of_number c w ++ bits_of (drop i bytes)
byte_step c w b i bytes h e small =
    let d : drop i bytes ≡ get_or bytes i 0 ∷ drop (i + 1) bytes = drop_more bytes i 0 h in
    let t : bits_of_number (c + 8) (w * 256 + b) ++ bits_of (drop (i + 1) bytes) ≡ bits_of_number c w ++ bits_of (b ∷ drop (i + 1) bytes) = byte_bits c w b (drop (i + 1) bytes) small in
    cc

pub none_left : (bytes : List ℕ) (i : ℕ) → length bytes ≤ i → take (length bytes - length bytes) (drop (length bytes) bytes) ≡ drop i bytes
none_left bytes i h =
    let e : take (length bytes - length bytes) (drop (length bytes) bytes) ≡ drop (length bytes) bytes = take_rest bytes (length bytes) in
    let d : drop (length bytes) bytes ≡ [] = drop_all (length bytes) bytes (omega arith) in
    let f : drop i bytes ≡ [] = drop_all i bytes h in
    cc

pub four_step : (c w a b d e : ℕ) (bytes : List ℕ) → 4 ≤ length bytes
    → a ≡ get_or bytes 0 0 → b ≡ get_or bytes 1 0 → d ≡ get_or bytes 2 0 → e ≡ get_or bytes 3 0
    → a < 256 → b < 256 → d < 256 → e < 256
    → bits_of_number (c + 32) (w * 4294967296 + ((a * 256 + b) * 65536 + (d * 256 + e))) ++ bits_of (take (length bytes - 4) (drop 4 bytes))
    ≡ bits_of_number c w ++ bits_of bytes
four_step c w a b d e bytes h ea eb ed ee ha hb hd he =
    let r : take (length bytes - 4) (drop 4 bytes) ≡ drop 4 bytes = take_rest bytes 4 in
    let f : bytes ≡ get_or bytes 0 0 ∷ get_or bytes 1 0 ∷ get_or bytes 2 0 ∷ get_or bytes 3 0 ∷ drop 4 bytes = four_front bytes h in
    let g : a ∷ b ∷ d ∷ e ∷ drop 4 bytes ≡ bytes = cc in
    let t : bits_of_number (c + 32) (w * 4294967296 + ((a * 256 + b) * 65536 + (d * 256 + e))) ++ bits_of (drop 4 bytes)
    ≡ bits_of_number c w ++ bits_of (a ∷ b ∷ d ∷ e ∷ drop 4 bytes) = four_bytes_bits c w a b d e (drop 4 bytes) ha hb hd he in
    rw r (t ∙ ap (λ z. bits_of_number c w ++ bits_of z) g)

pub mask_is : (w k : ℕ) → k < 64 → bit_and w (1 * 2 ^ k % 2 ^ 64 - 1) ≡ w % 2 ^ k
mask_is w k h = rw (one_shl k 64 h) (and_mask w k)

-- so many zeros more
abbrev pub more_zeros : ℕ → Result (Read ℕ) FrameError → Result (Read ℕ) FrameError
more_zeros n (Ok read) = Ok (record { value = n + read.value; rest = read.rest })
more_zeros n (Err error) = Err error

more_zeros-zero : (r : Result (Read ℕ) FrameError) → more_zeros zero r ≡ r
more_zeros-zero (Ok read) = let e : 0 + read.value ≡ read.value = omega arith in rw e refl
more_zeros-zero (Err error) = refl

one_more-more_zeros : (n : ℕ) (r : Result (Read ℕ) FrameError) → one_more (more_zeros n r) ≡ more_zeros (suc n) r
one_more-more_zeros n (Ok read) = let e : suc (n + read.value) ≡ suc n + read.value = omega arith in rw e refl
one_more-more_zeros n (Err error) = refl

pub pow-suc : (k : ℕ) → 2 ^ suc k ≡ 2 * 2 ^ k
pow-suc k = omega (arith, pow-add 2 1 k, ap (λ z. 2 ^ z) (one_plus k))
  where
    one_plus : (k : ℕ) → suc k ≡ 1 + k
    one_plus k = omega arith

pub pow_le : (i j : ℕ) → i ≤ j → 2 ^ i ≤ 2 ^ j
pow_le i j h =
    let e : i + (j - i) ≡ j = omega arith in
    let p : 2 ^ (i + (j - i)) ≡ 2 ^ i * 2 ^ (j - i) = pow-add 2 i (j - i) in
    let q : 2 ^ j ≡ 2 ^ i * 2 ^ (j - i) = rw e at p in
    let pos : 0 < 2 ^ (j - i) = pow_pos (j - i) in
    rw q (grind (arith))

quotient_one : (w m : ℕ) → 0 < m → m ≤ w → w < 2 * m → w / m ≡ 1
quotient_one w m pos low high =
    let e : (1 * m + (w - m)) / m ≡ 1 = div-mul-add 1 m (w - m) (omega arith) in
    let s : 1 * m + (w - m) ≡ w = omega arith in
    rw s at e

div-lt : (w m : ℕ) → w < m → w / m ≡ 0
div-lt w m h =
    let e : (0 * m + w) / m ≡ 0 = div-mul-add 0 m w h in
    let s : 0 * m + w ≡ w = omega arith in
    rw s at e

-- where the top bit of the word is
pub top_unary : (z keep w : ℕ) (rest : List Bool) → 2 ^ keep ≤ w → w < 2 ^ suc keep
    → unary (bits_of_number (z + suc keep) w ++ rest) ≡ Ok (record { value = z; rest = bits_of_number keep (w - 2 ^ keep) ++ rest })
unfolding bits_of_number unary
top_unary zero keep w rest low high =
    let p : 2 ^ suc keep ≡ 2 * 2 ^ keep = pow-suc keep in
    let q : w / 2 ^ keep ≡ 1 = quotient_one w (2 ^ keep) (pow_pos keep) low (omega arith) in
    let m : w ≡ 1 * 2 ^ keep + (w - 2 ^ keep) = omega arith in
    let b : bits_of_number keep (1 * 2 ^ keep + (w - 2 ^ keep)) ≡ bits_of_number keep (w - 2 ^ keep) = low_bits keep keep 1 (w - 2 ^ keep) (omega arith) in
    let b' : bits_of_number keep w ≡ bits_of_number keep (w - 2 ^ keep) = ap (bits_of_number keep) m ∙ b in
    rw zero-add (rw q (rw b' refl))
top_unary (suc z) keep w rest low high =
    let n : suc z + suc keep ≡ suc (z + suc keep) = omega arith in
    let le : 2 ^ suc keep ≤ 2 ^ (z + suc keep) = pow_le (suc keep) (z + suc keep) (omega arith) in
    let q : w / 2 ^ (z + suc keep) ≡ 0 = div-lt w (2 ^ (z + suc keep)) (omega arith) in
    let ih : unary (bits_of_number (z + suc keep) w ++ rest) ≡ Ok (record { value = z; rest = bits_of_number keep (w - 2 ^ keep) ++ rest }) = top_unary z keep w rest low high in
    rw n (rw q (rw ih refl))

-- no top bit
pub zeros_unary : (n : ℕ) (rest : List Bool) → unary (bits_of_number n 0 ++ rest) ≡ more_zeros n (unary rest)
unfolding bits_of_number unary
zeros_unary zero rest = sym (more_zeros-zero (unary rest))
zeros_unary (suc n) rest =
    let q : 0 / 2 ^ n ≡ 0 = div-lt 0 (2 ^ n) (pow_pos n) in
    rw q (ap one_more (zeros_unary n rest) ∙ one_more-more_zeros n (unary rest))
