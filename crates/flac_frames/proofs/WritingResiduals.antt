-- What is written of residuals is read back.
use Rattle.std.proofs.Common.{◌≡◌, ℕ, zero, suc, ◌+◌, ◌-◌, ◌*◌, ◌/◌, ◌%◌, ◌^◌, ◌<◌, ◌≤◌, ◌==◌, Bool, true, false, List, [], ◌∷◌, ◌++◌, length, take, drop, refl, ap, arith, length-take, length-take-le, Ok, ℤ, pos, negsuc, append_assoc, take-append-drop}
use Rattle.std.specs.Prelude.{nat_lt, nat_le, slice_index_or}
use Rattle.std.specs.List.{All, flat_map}
use Rattle.std.proofs.Math.Pow.{split}
use Rattle.std.proofs.lemmas.Nat.{pow_pos, mod_below}
use Rattle.flac_frames.specs.Bits.{bits_of_number, signed_of}
use Rattle.flac_frames.specs.Reading.{Reader, times, signed, unsigned, unary}
use Rattle.flac_frames.specs.Residual.{unfolded, residual_of, rice, escaped, partition, partitions, parameter_width, partition_order, residuals}
use Rattle.flac_frames.specs.Choices.{bits_of_signed, bits_of_each, unary_bits, folded, rice_bits, PartitionCode, Rice, Escape, partition_bits, partitions_bits, ResidualChoice, first_size, other_size, residual_bits}
use Rattle.flac_frames.specs.MayEncode.{fits_escape, MayCode, MayCodeEach, MayCodeResiduals}
use Rattle.flac_frames.proofs.WritingBits.{front-prefix, unsigned-bits, signed-bits, unary-bits}

-- what was written of a value is read back, whatever follows
abbrev pub ReadsBack : {A : Type 0} → Reader A → (A → List Bool) → A → Type 0
ReadsBack reader write x = (rest : List Bool) → reader (write x ++ rest) ≡ Ok (record { value = x; rest = rest })

pub times-each : {A : Type 0} → (reader : Reader A) (write : A → List Bool) (xs : List A) (rest : List Bool) → All (ReadsBack reader write) xs
    → times (length xs) reader (flat_map write xs ++ rest) ≡ Ok (record { value = xs; rest = rest })
unfolding times
times-each reader write [] rest each = refl
times-each reader write (x ∷ xs) rest each =
    let here : reader (write x ++ (flat_map write xs ++ rest)) ≡ Ok (record { value = x; rest = flat_map write xs ++ rest }) =
    each 0 x (omega arith) (flat_map write xs ++ rest) in
    let there : times (length xs) reader (flat_map write xs ++ rest) ≡ Ok (record { value = xs; rest = rest }) =
    times-each reader write xs rest (λ k d h. each (suc k) d (omega arith)) in
    rw (append_assoc (write x) (flat_map write xs) rest) (rw here (rw there refl))

unfolded-folded : (r : ℤ) → unfolded (folded r) ≡ r
unfolding unfolded
unfolded-folded (pos n) =
    let even : 2 * n % 2 ≡ 0 = omega arith in let half : 2 * n / 2 ≡ n = omega arith in rw even (ap pos half)
unfolded-folded (negsuc n) =
    let odd : (2 * n + 1) % 2 ≡ 1 = omega arith in let half : (2 * n + 1) / 2 ≡ n = omega arith in rw odd (ap negsuc half)

residual_of-folded : (r : ℤ) (rest : List Bool) → suc (folded r) < 2 ^ 32 → residual_of (folded r) rest ≡ Ok (record { value = r; rest = rest })
unfolding residual_of
residual_of-folded r rest h =
    let may : nat_lt (folded r) (2 ^ 32 - 1) ≡ true = grind arith in
    rw may (rw (unfolded-folded r) refl)

pub rice-bits : (parameter : ℕ) (residual : ℤ) → suc (folded residual) < 2 ^ 32 → ReadsBack (rice parameter) (rice_bits parameter) residual
unfolding rice
rice-bits parameter residual h rest =
    let q : ℕ = folded residual / 2 ^ parameter in
    let m : ℕ = folded residual % 2 ^ parameter in
    let low : unsigned parameter (bits_of_number parameter m ++ rest) ≡ Ok (record { value = m; rest = rest }) =
    unsigned-bits parameter m rest (mod_below (folded residual) (2 ^ parameter) (pow_pos parameter)) in
    let high : unary (unary_bits q ++ (bits_of_number parameter m ++ rest)) ≡ Ok (record { value = q; rest = bits_of_number parameter m ++ rest }) =
    unary-bits q (bits_of_number parameter m ++ rest) in
    rw (append_assoc (unary_bits q) (bits_of_number parameter m) rest)
    (rw high (rw low (rw (split (folded residual) parameter) (residual_of-folded residual rest h))))

no_bits : (rest : List Bool) → signed 0 (bits_of_number 0 0 ++ rest) ≡ Ok (record { value = pos 0; rest = rest })
unfolding signed bits_of_number signed_of
no_bits rest = rw (front-prefix 0 [] rest refl) refl

-- a number of so many bits, of none too
pub escape-bits : (width : ℕ) (number : ℤ) → fits_escape width number ≡ true → ReadsBack (signed width) (bits_of_signed width) number
escape-bits zero (pos n) h rest = let none : n ≡ 0 = grind arith in rw none (no_bits rest)
escape-bits zero (negsuc n) h rest = absurd (grind arith)
escape-bits (suc width) number h rest = signed-bits width number rest h

pub partition-bits : (parameter_bits : ℕ) (code : PartitionCode) (rs : List ℤ) (rest : List Bool) → MayCode parameter_bits code rs
    → partition parameter_bits (length rs) (partition_bits parameter_bits code rs ++ rest) ≡ Ok (record { value = rs; rest = rest })
unfolding partition escaped
partition-bits parameter_bits (Rice parameter) rs rest h =
    let front : unsigned parameter_bits (bits_of_number parameter_bits parameter ++ (flat_map (rice_bits parameter) rs ++ rest))
    ≡ Ok (record { value = parameter; rest = flat_map (rice_bits parameter) rs ++ rest }) =
    unsigned-bits parameter_bits parameter (flat_map (rice_bits parameter) rs ++ rest) (omega arith) in
    let plain : (parameter == 2 ^ parameter_bits - 1) ≡ false = grind arith in
    rw (append_assoc (bits_of_number parameter_bits parameter) (flat_map (rice_bits parameter) rs) rest)
    (rw front (rw plain (times-each (rice parameter) (rice_bits parameter) rs rest
    (λ k d lt. rice-bits parameter (slice_index_or rs k d) (h.1 k d lt)))))
partition-bits parameter_bits (Escape width) rs rest h =
    let code : ℕ = 2 ^ parameter_bits - 1 in
    let behind : List Bool = bits_of_each width rs ++ rest in
    let front : unsigned parameter_bits (bits_of_number parameter_bits code ++ (bits_of_number 5 width ++ behind))
    ≡ Ok (record { value = code; rest = bits_of_number 5 width ++ behind }) =
    unsigned-bits parameter_bits code (bits_of_number 5 width ++ behind) (grind (arith, pow_pos)) in
    let escape : (code == 2 ^ parameter_bits - 1) ≡ true = grind arith in
    let second : unsigned 5 (bits_of_number 5 width ++ behind) ≡ Ok (record { value = width; rest = behind }) =
    unsigned-bits 5 width behind (h.0) in
    rw (append_assoc (bits_of_number parameter_bits code) (bits_of_number 5 width ++ bits_of_each width rs) rest)
    (rw (append_assoc (bits_of_number 5 width) (bits_of_each width rs) rest)
    (rw front (rw escape (rw second (times-each (signed width) (bits_of_signed width) rs rest
    (λ k d lt. escape-bits width (slice_index_or rs k d) (h.1 k d lt)))))))

-- partitions of one size
pub partitions-bits : (parameter_bits size : ℕ) (codes : List PartitionCode) (rs : List ℤ) (rest : List Bool)
    → MayCodeEach parameter_bits size codes rs
    → partitions parameter_bits (length codes) size (partitions_bits parameter_bits size codes rs ++ rest) ≡ Ok (record { value = rs; rest = rest })
unfolding partitions partitions_bits
partitions-bits parameter_bits size [] rs rest h = rw h refl
partitions-bits parameter_bits size (code ∷ codes) rs rest h =
    let behind : List Bool = partitions_bits parameter_bits size codes (drop size rs) ++ rest in
    let whole : length (take size rs) ≡ size = grind (arith, length-take) in
    let front : partition parameter_bits (length (take size rs)) (partition_bits parameter_bits code (take size rs) ++ behind)
    ≡ Ok (record { value = take size rs; rest = behind }) = partition-bits parameter_bits code (take size rs) behind (h.1) in
    let back : partitions parameter_bits (length codes) size behind ≡ Ok (record { value = drop size rs; rest = rest }) =
    partitions-bits parameter_bits size codes (drop size rs) rest (h.2) in
    let first : partition parameter_bits size (partition_bits parameter_bits code (take size rs) ++ behind)
    ≡ Ok (record { value = take size rs; rest = behind }) = rw whole at front in
    rw (append_assoc (partition_bits parameter_bits code (take size rs)) (partitions_bits parameter_bits size codes (drop size rs)) rest)
    (rw first (rw back (rw (take-append-drop size rs) refl)))

parameter_width-bits : (method : ℕ) (rest : List Bool) → method < 2
    → parameter_width (bits_of_number 2 method ++ rest) ≡ Ok (record { value = 4 + method; rest = rest })
unfolding parameter_width
parameter_width-bits method rest h =
    let known : nat_lt method 2 ≡ true = grind arith in
    rw (unsigned-bits 2 method rest (omega arith)) (rw known refl)

partition_order-bits : (block_size warm_up n : ℕ) (rest : List Bool) → n < 16 → block_size % 2 ^ n ≡ 0 → warm_up ≤ block_size / 2 ^ n
    → partition_order block_size warm_up (bits_of_number 4 n ++ rest) ≡ Ok (record { value = n; rest = rest })
unfolding partition_order
partition_order-bits block_size warm_up n rest h even warm =
    let known : nat_le warm_up (block_size / 2 ^ n) ≡ true = grind arith in
    rw (unsigned-bits 4 n rest (omega arith)) (rw even (rw known refl))

pub residuals-bits : (choice : ResidualChoice) (block_size warm_up : ℕ) (rs : List ℤ) (rest : List Bool)
    → MayCodeResiduals choice block_size warm_up rs
    → residuals block_size warm_up (residual_bits choice block_size warm_up rs ++ rest) ≡ Ok (record { value = rs; rest = rest })
unfolding residuals
residuals-bits choice block_size warm_up rs rest h =
    let n : ℕ = choice.order in
    let pb : ℕ = 4 + choice.method in
    let size : ℕ = first_size choice block_size warm_up in
    let front : List Bool = partition_bits pb choice.first (take size rs) in
    let back : List Bool = partitions_bits pb (other_size choice block_size) choice.others (drop size rs) in
    let order : List Bool = bits_of_number 4 n in
    let method : List Bool = bits_of_number 2 choice.method in
    let method_read : parameter_width (method ++ (order ++ (front ++ (back ++ rest)))) ≡ Ok (record { value = pb; rest = order ++ (front ++ (back ++ rest)) }) =
    parameter_width-bits choice.method (order ++ (front ++ (back ++ rest))) h.method in
    let order_read : partition_order block_size warm_up (order ++ (front ++ (back ++ rest))) ≡ Ok (record { value = n; rest = front ++ (back ++ rest) }) =
    partition_order-bits block_size warm_up n (front ++ (back ++ rest)) h.order h.even h.warm in
    let whole : length (take size rs) ≡ size = length-take-le size rs h.enough in
    let front_read : partition pb size (front ++ (back ++ rest)) ≡ Ok (record { value = take size rs; rest = back ++ rest }) =
    rw whole at (partition-bits pb choice.first (take size rs) (back ++ rest) h.first) in
    let count : 2 ^ n - 1 ≡ length choice.others = let e : suc (length choice.others) ≡ 2 ^ n = h.others in omega arith in
    let back_read : partitions pb (2 ^ n - 1) (other_size choice block_size) (back ++ rest) ≡ Ok (record { value = drop size rs; rest = rest }) =
    rw count (partitions-bits pb (other_size choice block_size) choice.others (drop size rs) rest h.each) in
    rw (append_assoc method (order ++ (front ++ back)) rest)
    (rw (append_assoc order (front ++ back) rest)
    (rw (append_assoc front back rest)
    (rw method_read (rw order_read (rw front_read (rw back_read (rw (take-append-drop size rs) refl)))))))
