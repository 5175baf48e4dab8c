-- Samples from their residuals (RFC 9639, sections 9.2.5 and 9.2.6).
use Rattle.std.specs.Prelude.{◌≡◌, ℕ, take, drop, ◌==◌, List, [], ◌∷◌, ◌++◌, reverse, ℤ, pos, negsuc, ◌+ℤ◌, ◌*ℤ◌, Result, Ok, Err}
use Rattle.std.specs.Prelude.{if◌then◌else◌}
use Rattle.std.specs.Int.{int_shr}
use Rattle.flac_frames.specs.Bits.{fits}
use Rattle.flac_frames.specs.declared.refusal.FrameError.{FrameError}
use Rattle.flac_frames.specs.declared.refusal.FrameError.TheVariants.{TooLarge}

-- the products of coefficients and earlier samples, the latest sample first, in unbounded integers
unfoldable pub weighted : List ℤ → List ℤ → ℤ
weighted [] earlier = pos 0
weighted (coefficient ∷ coefficients) [] = pos 0
weighted (coefficient ∷ coefficients) (sample ∷ earlier) = coefficient *ℤ sample +ℤ weighted coefficients earlier

-- a prediction: that sum, shifted right with its sign
abbrev pub predicted : List ℤ → ℕ → List ℤ → ℤ
predicted coefficients shift earlier = int_shr (weighted coefficients earlier) shift

abbrev pub joined : List ℤ → Result (List ℤ) FrameError → Result (List ℤ) FrameError
joined front (Ok back) = Ok (front ++ back)
joined front (Err error) = Err error

-- Each sample is its residual and what was predicted from those before it. The standard has encoders see to it that it has
-- the samples' width; where it has not, the frame is refused.
unfoldable pub restored : ℕ → List ℤ → ℕ → List ℤ → List ℤ → Result (List ℤ) FrameError
restored width coefficients shift earlier [] = Ok []
restored width coefficients shift earlier (residual ∷ residuals) =
    let sample = residual +ℤ predicted coefficients shift earlier in
    if fits width sample then joined (sample ∷ []) (restored width coefficients shift (sample ∷ earlier) residuals)
    else Err TooLarge

-- the samples of the block: those of the warm-up, and those restored behind them
unfoldable pub samples_from : ℕ → List ℤ → ℕ → List ℤ → List ℤ → Result (List ℤ) FrameError
samples_from width coefficients shift warm_up residuals =
    joined warm_up (restored width coefficients shift (reverse warm_up) residuals)

-- the fixed predictors of orders 0 to 4
unfoldable pub fixed_coefficients : ℕ → List ℤ
fixed_coefficients order =
    if order == 0 then []
    else if order == 1 then pos 1 ∷ []
    else if order == 2 then pos 2 ∷ negsuc 0 ∷ []
    else if order == 3 then pos 3 ∷ negsuc 2 ∷ pos 1 ∷ []
    else pos 4 ∷ negsuc 5 ∷ pos 4 ∷ negsuc 0 ∷ []

-- the samples stand in the place of the residuals behind the warm-up, or this is why not
abbrev pub Restores : {A : Type 0} → (List ℤ → List ℤ → Result (List ℤ) FrameError) → ℕ → List ℤ → Result A FrameError → List ℤ → Type 0
Restores from order old (Ok done) new = from (take order old) (drop order old) ≡ Ok new
Restores from order old (Err error) new = from (take order old) (drop order old) ≡ Err error
