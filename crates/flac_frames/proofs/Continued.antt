-- Coded numbers byte by byte.
use Rattle.std.proofs.Common.{◌≡◌, ℕ, ◌+◌, ◌-◌, ◌*◌, ◌^◌, ◌<◌, ◌≤◌, suc, Bool, List, refl, sym, ◌∙◌, arith, Result, Ok, Err}
use Rattle.flac_frames.specs.Reading.{Read}
use Rattle.flac_frames.specs.CodedNumber.{six_bits, continued}
use Rattle.flac_frames.specs.declared.refusal.FrameError.{FrameError}
use Rattle.flac_frames.proofs.BitLists.{word_fits, pow_le}

pub continued_step : (n i number low : ℕ) (bits rest : List Bool) (all : Result (Read ℕ) FrameError) → i < n
    → six_bits bits ≡ Ok (record { value = low; rest = rest })
    → continued (n - i) number bits ≡ all → continued (n - (i + 1)) (number * 64 + low) rest ≡ all
unfolding continued
continued_step n i number low bits rest all h s before =
    let m : n - i ≡ suc (n - (i + 1)) = omega arith in
    let t : continued (suc (n - (i + 1))) number bits ≡ all = rw m at before in
    rw s at t

pub continued_fault : (n i number : ℕ) (bits : List Bool) (error : FrameError) (all : Result (Read ℕ) FrameError) → i < n
    → six_bits bits ≡ Err error → continued (n - i) number bits ≡ all → all ≡ Err error
unfolding continued
continued_fault n i number bits error all h s before =
    let m : n - i ≡ suc (n - (i + 1)) = omega arith in
    sym before ∙ rw m (rw s refl)

pub continued_end : (n i number : ℕ) (bits : List Bool) (all : Result (Read ℕ) FrameError) → n ≤ i
    → continued (n - i) number bits ≡ all → all ≡ Ok (record { value = number; rest = bits })
unfolding continued
continued_end n i number bits all h before =
    let m : n - i ≡ 0 = omega arith in
    sym before ∙ rw m refl

pub more_six : (i number low : ℕ) → number < 2 ^ (6 * i + 6) → low < 64 → number * 64 + low < 2 ^ (6 * (i + 1) + 6)
more_six i number low h l =
    let w : number * 2 ^ 6 + low < 2 ^ (6 * i + 6 + 6) = word_fits number (6 * i + 6) low 6 h l in
    let e : 6 * (i + 1) + 6 ≡ 6 * i + 6 + 6 = omega arith in
    rw e w

pub six_in_64 : (i number low : ℕ) → i < 6 → number < 2 ^ (6 * i + 6) → low < 64 → number * 64 + low < 2 ^ 42
six_in_64 i number low few h l =
    omega (arith, more_six i number low h l, pow_le (6 * (i + 1) + 6) 42 (omega arith))
