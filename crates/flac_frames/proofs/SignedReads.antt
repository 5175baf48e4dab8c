-- Two's complement by the sign bit and what follows it.
use Rattle.std.proofs.Common.{◌≡◌, ℕ, suc, ◌-◌, ◌^◌, ◌<◌, ◌≤◌, inl, inr, Bool, true, false, List, [], ◌∷◌, length, take, drop, cond, refl, ap, ◌∙◌, arith, length-take, pos, negsuc, ◌-ℤ◌, Result, Ok, Err}
use Rattle.std.proofs.lemmas.Bool.{le-leb, cases_lt}
use Rattle.std.proofs.lemmas.Int.{ints}
use Rattle.std.proofs.lemmas.Nat.{pow_pos}
use Rattle.flac_frames.specs.Bits.{number_of, signed_of}
use Rattle.flac_frames.specs.Signed.{signed_from}
use Rattle.flac_frames.specs.Reading.{Read, front, unsigned, signed}
use Rattle.flac_frames.specs.declared.refusal.FrameError.{FrameError}
use Rattle.flac_frames.specs.declared.refusal.FrameError.TheVariants.{Ended}
use Rattle.flac_frames.proofs.BitLists.{pow-suc}
use Rattle.flac_frames.proofs.ReadLists.{front_short}

pub number_below : (bits : List Bool) → number_of bits < 2 ^ length bits
unfolding number_of
number_below [] = omega arith
number_below (true ∷ bits) = omega (arith, number_below bits, pow-suc (length bits))
number_below (false ∷ bits) = omega (arith, number_below bits, pow-suc (length bits), pow_pos (length bits))

negative : (k p : ℕ) → k < p → negsuc (p - 1 - k) ≡ pos k -ℤ pos p
negative k p h = omega (arith, ints)

signed_cons : (m : ℕ) (b : Bool) (bits : List Bool) → length bits ≡ m → signed_of (b ∷ bits) ≡ signed_from m (cond b 1 0) (number_of bits)
unfolding signed_of
signed_cons m false bits h = refl
signed_cons m true bits h =
    let e : 2 ^ length bits ≡ 2 ^ m = ap (λ n. 2 ^ n) h in
    negative (number_of bits) (2 ^ length bits) (number_below bits) ∙ ap (λ p. pos (number_of bits) -ℤ pos p) e

pub same_read : {A : Type 0} (x : Result (Read A) FrameError) (r s : Read A) → x ≡ Ok r → x ≡ Ok s → (r.value ≡ s.value) × (r.rest ≡ s.rest)
same_read x r s h k = let e : r ≡ s = cc in (ap (λ x. x.value) e, ap (λ x. x.rest) e)

front_long : (n : ℕ) (bits : List Bool) → n ≤ length bits → front n bits ≡ Ok (record { value = take n bits; rest = drop n bits })
unfolding front
front_long n bits h = rw (le-leb n (length bits) h) refl

pub unsigned_long : (n : ℕ) (bits : List Bool) → n ≤ length bits → unsigned n bits ≡ Ok (record { value = number_of (take n bits); rest = drop n bits })
unfolding unsigned
unsigned_long n bits h = rw (front_long n bits h) refl

pub unsigned_ended : (n : ℕ) (bits : List Bool) → length bits < n → unsigned n bits ≡ Err Ended
unfolding unsigned
unsigned_ended n bits h = rw (front_short n bits h) refl

signed_ended : (n : ℕ) (bits : List Bool) → length bits < n → signed n bits ≡ Err Ended
unfolding signed
signed_ended n bits h = rw (front_short n bits h) refl

signed_long : (m : ℕ) (b : Bool) (bits : List Bool) → m ≤ length bits
    → signed (suc m) (b ∷ bits) ≡ Ok (record { value = signed_from m (cond b 1 0) (number_of (take m bits)); rest = drop m bits })
unfolding signed
signed_long m b bits h =
    let f : front (suc m) (b ∷ bits) ≡ Ok (record { value = b ∷ take m bits; rest = drop m bits }) = front_long (suc m) (b ∷ bits) (omega arith) in
    let v : signed_of (b ∷ take m bits) ≡ signed_from m (cond b 1 0) (number_of (take m bits)) = signed_cons m b (take m bits) (omega (arith, length-take m bits)) in
    rw f (rw v refl)

first_bit : (b : Bool) (bits : List Bool) → unsigned 1 (b ∷ bits) ≡ Ok (record { value = cond b 1 0; rest = bits })
unfolding number_of
first_bit true bits = unsigned_long 1 (true ∷ bits) (omega arith)
first_bit false bits = unsigned_long 1 (false ∷ bits) (omega arith)

behind_first : (m low : ℕ) (b : Bool) (bits c : List Bool) → unsigned m bits ≡ Ok (record { value = low; rest = c })
    → signed (suc m) (b ∷ bits) ≡ Ok (record { value = signed_from m (cond b 1 0) low; rest = c })
behind_first m low b bits c u = elim (cases_lt (length bits) m) [
  | inl h ↦ (let e : unsigned m bits ≡ Err Ended = unsigned_ended m bits h in cc)
  | inr h ↦ (let e : unsigned m bits ≡ Ok (record { value = number_of (take m bits); rest = drop m bits }) = unsigned_long m bits h in
      let s = signed_long m b bits h in
      let p = same_read (unsigned m bits) (record { value = number_of (take m bits); rest = drop m bits }) (record { value = low; rest = c }) e u in
      rw (p.0, p.1) at s)
]

pub signed_two : (m s low : ℕ) (a b c : List Bool) → unsigned 1 a ≡ Ok (record { value = s; rest = b }) → unsigned m b ≡ Ok (record { value = low; rest = c })
    → signed (suc m) a ≡ Ok (record { value = signed_from m s low; rest = c })
signed_two m s low [] b c first second = let e : unsigned 1 [] ≡ Err Ended = unsigned_ended 1 [] (omega arith) in cc
signed_two m s low (x ∷ xs) b c first second =
    let e : unsigned 1 (x ∷ xs) ≡ Ok (record { value = cond x 1 0; rest = xs }) = first_bit x xs in
    let p = same_read (unsigned 1 (x ∷ xs)) (record { value = s; rest = b }) (record { value = cond x 1 0; rest = xs }) first e in
    let u : unsigned m xs ≡ Ok (record { value = low; rest = c }) = rw p.1 at second in
    rw p.0 (behind_first m low x xs c u)

pub signed_first_ended : (n : ℕ) (a : List Bool) (e : FrameError) → 0 < n → unsigned 1 a ≡ Err e → signed n a ≡ Err e
signed_first_ended n [] e h u =
    let k : unsigned 1 [] ≡ Err Ended = unsigned_ended 1 [] (omega arith) in
    let s : signed n [] ≡ Err Ended = signed_ended n [] h in
    cc
signed_first_ended n (x ∷ xs) e h u = let k : unsigned 1 (x ∷ xs) ≡ Ok (record { value = cond x 1 0; rest = xs }) = first_bit x xs in cc

pub signed_second_ended : (m s : ℕ) (a b : List Bool) (e : FrameError) → unsigned 1 a ≡ Ok (record { value = s; rest = b }) → unsigned m b ≡ Err e → signed (suc m) a ≡ Err e
signed_second_ended m s [] b e first second = let k : unsigned 1 [] ≡ Err Ended = unsigned_ended 1 [] (omega arith) in cc
signed_second_ended m s (x ∷ xs) b e first second =
    let k : unsigned 1 (x ∷ xs) ≡ Ok (record { value = cond x 1 0; rest = xs }) = first_bit x xs in
    let p = same_read (unsigned 1 (x ∷ xs)) (record { value = s; rest = b }) (record { value = cond x 1 0; rest = xs }) first k in
    let u : unsigned m xs ≡ Err e = rw p.1 at second in
    elim (cases_lt (length xs) m) [
      | inl h ↦ (let d : unsigned m xs ≡ Err Ended = unsigned_ended m xs h in
          let t : signed (suc m) (x ∷ xs) ≡ Err Ended = signed_ended (suc m) (x ∷ xs) (omega arith) in cc)
      | inr h ↦ (let d : unsigned m xs ≡ Ok (record { value = number_of (take m xs); rest = drop m xs }) = unsigned_long m xs h in cc)
    ]

pub no_bits : (bits : List Bool) → signed 0 bits ≡ Ok (record { value = pos 0; rest = bits })
unfolding signed signed_of
no_bits bits = rw (front_long 0 bits (omega arith)) refl
