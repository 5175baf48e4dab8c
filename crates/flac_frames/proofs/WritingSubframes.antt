-- What is written of a channel's samples is read back.
use Rattle.std.proofs.Common.{◌≡◌, ℕ, zero, suc, ◌+◌, ◌-◌, ◌*◌, ◌/◌, ◌^◌, ◌<◌, ◌≤◌, ◌==◌, Bool, true, false, List, [], ◌∷◌, ◌++◌, length, take, drop, refl, sym, ap, arith, length-take-le, Ok, ℤ, pos, negsuc, append_assoc, take-append-drop, add-one}
use Rattle.std.proofs.lemmas.Int.{ints}
use Rattle.std.proofs.lemmas.List.{length-map}
use Rattle.std.proofs.lemmas.List.Elements.{All-take, All-drop, All-nil, All-cons}
use Rattle.std.proofs.lemmas.Nat.{pow_pos, div_below, pow-add}
use Rattle.std.specs.Prelude.{nat_lt, nat_le, slice_index_or, map, replicate, reverse, ◌+ℤ◌, ◌-ℤ◌}
use Rattle.std.specs.List.{All}
use Rattle.flac_frames.specs.Bits.{bits_of_number, fits, number_of}
use Rattle.flac_frames.specs.Reading.{times, signed, unsigned}
use Rattle.flac_frames.specs.Prediction.{predicted, restored, samples_from, fixed_coefficients}
use Rattle.flac_frames.specs.Subframe.{constant, verbatim, warm_up_of, fixed, precision, shift_right, linear, kind_code, samples_of_kind, wasted_bits, widened, subframe}
use Rattle.flac_frames.specs.Choices.{bits_of_signed, bits_of_each, unary_bits, ResidualChoice, residual_bits, lacking, residuals_by, Predictor, Constant, Verbatim, Fixed, Linear, kind_of, predictor_bits, SubframeChoice, wasted_flag, narrowed, subframe_bits}
use Rattle.flac_frames.specs.MayEncode.{MayCodeResiduals, MayPredict, MayTell}
use Rattle.flac_frames.proofs.WritingBits.{front-prefix, unsigned-bits, signed-bits, unary-bits}
use Rattle.flac_frames.proofs.WritingResiduals.{ReadsBack, times-each, residuals-bits}

-- numbers of a width that isn't 0
signed-back : (width : ℕ) (x : ℤ) → 0 < width → fits width x ≡ true → ReadsBack (signed width) (bits_of_signed width) x
signed-back zero x some h rest = absurd (omega arith)
signed-back (suc n) x some h rest = signed-bits n x rest h

pub each-back : (width : ℕ) (xs : List ℤ) (rest : List Bool) → 0 < width → All (λ x. fits width x ≡ true) xs
    → times (length xs) (signed width) (bits_of_each width xs ++ rest) ≡ Ok (record { value = xs; rest = rest })
each-back width xs rest some fit = times-each (signed width) (bits_of_signed width) xs rest
    (λ k d h. signed-back width (slice_index_or xs k d) some (fit k d h))

-- a prediction and what it lacks are the sample
restored-lacking : (width : ℕ) (coefficients : List ℤ) (shift : ℕ) (earlier samples : List ℤ) → All (λ x. fits width x ≡ true) samples
    → restored width coefficients shift earlier (lacking coefficients shift earlier samples) ≡ Ok samples
unfolding restored lacking
restored-lacking width coefficients shift earlier [] fit = refl
restored-lacking width coefficients shift earlier (sample ∷ samples) fit =
    let p : ℤ = predicted coefficients shift earlier in
    let same : (sample -ℤ p) +ℤ p ≡ sample = omega (arith, ints) in
    let here : fits width sample ≡ true = fit 0 sample (omega arith) in
    let there : restored width coefficients shift (sample ∷ earlier) (lacking coefficients shift (sample ∷ earlier) samples) ≡ Ok samples =
    restored-lacking width coefficients shift (sample ∷ earlier) samples (λ k d h. fit (suc k) d (omega arith)) in
    rw same (rw here (rw there refl))

pub samples-restored : (width : ℕ) (coefficients : List ℤ) (shift order : ℕ) (samples : List ℤ) → All (λ x. fits width x ≡ true) samples
    → samples_from width coefficients shift (take order samples) (residuals_by coefficients shift order samples) ≡ Ok samples
unfolding samples_from
samples-restored width coefficients shift order samples fit =
    let back : restored width coefficients shift (reverse (take order samples)) (residuals_by coefficients shift order samples) ≡ Ok (drop order samples) =
    restored-lacking width coefficients shift (reverse (take order samples)) (drop order samples)
    (All-drop (λ x. fits width x ≡ true) order samples fit) in
    rw back (rw (take-append-drop order samples) refl)

wasted-back : (wasted : ℕ) (rest : List Bool) → wasted_bits (wasted_flag wasted ++ rest) ≡ Ok (record { value = wasted; rest = rest })
unfolding wasted_bits unsigned number_of
wasted-back zero rest = rw (front-prefix 1 (false ∷ []) rest refl) refl
wasted-back (suc n) rest =
    rw (front-prefix 1 (true ∷ []) (unary_bits n ++ rest) refl) (rw (unary-bits n rest) (rw (add-one n) refl))

warm_up-back : (width block_size order : ℕ) (samples : List ℤ) (rest : List Bool) → 0 < width → order ≤ block_size → length samples ≡ order
    → All (λ x. fits width x ≡ true) samples
    → warm_up_of width block_size order (bits_of_each width samples ++ rest) ≡ Ok (record { value = samples; rest = rest })
unfolding warm_up_of
warm_up-back width block_size order samples rest some within size fit =
    let known : nat_le order block_size ≡ true = grind arith in
    let back : times order (signed width) (bits_of_each width samples ++ rest) ≡ Ok (record { value = samples; rest = rest }) =
    rw size at (each-back width samples rest some fit) in
    rw known back

constant-back : (width : ℕ) (sample : ℤ) (samples : List ℤ) (rest : List Bool) → 0 < width → fits width sample ≡ true
    → samples ≡ replicate (length samples) sample
    → constant width (suc (length samples)) (bits_of_each width (sample ∷ []) ++ rest) ≡ Ok (record { value = sample ∷ samples; rest = rest })
unfolding constant
constant-back width sample samples rest some fit same =
    let back : signed width (bits_of_signed width sample ++ ([] ++ rest)) ≡ Ok (record { value = sample; rest = rest }) =
    signed-back width sample some fit rest in
    rw (append_assoc (bits_of_signed width sample) [] rest) (rw back (rw (sym same) refl))

verbatim-back : (width : ℕ) (samples : List ℤ) (rest : List Bool) → 0 < width → All (λ x. fits width x ≡ true) samples
    → verbatim width (length samples) (bits_of_each width samples ++ rest) ≡ Ok (record { value = samples; rest = rest })
unfolding verbatim
verbatim-back width samples rest some fit = each-back width samples rest some fit

fixed-back : (width order : ℕ) (choice : ResidualChoice) (samples : List ℤ) (rest : List Bool) → 0 < width → All (λ x. fits width x ≡ true) samples
    → order ≤ length samples
    → MayCodeResiduals choice (length samples) order (residuals_by (fixed_coefficients order) 0 order samples)
    → fixed width (length samples) order (predictor_bits (Fixed order choice) width samples ++ rest) ≡ Ok (record { value = samples; rest = rest })
unfolding fixed
fixed-back width order choice samples rest some fit within h =
    let warm : List ℤ = take order samples in
    let lacked : List ℤ = residuals_by (fixed_coefficients order) 0 order samples in
    let behind : List Bool = residual_bits choice (length samples) order lacked ++ rest in
    let warm_read : warm_up_of width (length samples) order (bits_of_each width warm ++ behind) ≡ Ok (record { value = warm; rest = behind }) =
    warm_up-back width (length samples) order warm behind some within (length-take-le order samples within)
    (All-take (λ x. fits width x ≡ true) order samples fit) in
    rw (append_assoc (bits_of_each width warm) (residual_bits choice (length samples) order lacked) rest)
    (rw warm_read (rw (residuals-bits choice (length samples) order lacked rest h)
    (rw (samples-restored width (fixed_coefficients order) 0 order samples fit) refl)))

precision-back : (n : ℕ) (rest : List Bool) → 1 ≤ n → n ≤ 15 → precision (bits_of_number 4 (n - 1) ++ rest) ≡ Ok (record { value = n; rest = rest })
unfolding precision
precision-back n rest low high =
    let known : nat_lt (n - 1) 15 ≡ true = grind arith in
    let same : n - 1 + 1 ≡ n = omega arith in
    rw (unsigned-bits 4 (n - 1) rest (omega arith)) (rw known (rw same refl))

shift-back : (n : ℕ) (rest : List Bool) → n < 16 → shift_right (bits_of_number 5 n ++ rest) ≡ Ok (record { value = n; rest = rest })
unfolding shift_right
shift-back n rest h =
    let known : nat_lt n 16 ≡ true = grind arith in
    rw (unsigned-bits 5 n rest (omega arith)) (rw known refl)

linear-back : (width : ℕ) (coefficients : List ℤ) (precise shift : ℕ) (choice : ResidualChoice) (samples : List ℤ) (rest : List Bool)
    → 0 < width → All (λ x. fits width x ≡ true) samples → length coefficients ≤ length samples → 1 ≤ precise → precise ≤ 15 → shift < 16
    → All (λ x. fits precise x ≡ true) coefficients
    → MayCodeResiduals choice (length samples) (length coefficients) (residuals_by coefficients shift (length coefficients) samples)
    → linear width (length samples) (length coefficients) (predictor_bits (Linear coefficients precise shift choice) width samples ++ rest)
    ≡ Ok (record { value = samples; rest = rest })
unfolding linear
linear-back width coefficients precise shift choice samples rest some fit within low high moved good h =
    let order : ℕ = length coefficients in
    let warm : List ℤ = take order samples in
    let a : List Bool = bits_of_each width warm in
    let b : List Bool = bits_of_number 4 (precise - 1) in
    let c : List Bool = bits_of_number 5 shift in
    let d : List Bool = bits_of_each precise coefficients in
    let e : List Bool = residual_bits choice (length samples) order (residuals_by coefficients shift order samples) in
    let warm_read : warm_up_of width (length samples) order (a ++ (b ++ (c ++ (d ++ (e ++ rest))))) ≡ Ok (record { value = warm; rest = b ++ (c ++ (d ++ (e ++ rest))) }) =
    warm_up-back width (length samples) order warm (b ++ (c ++ (d ++ (e ++ rest)))) some within (length-take-le order samples within)
    (All-take (λ x. fits width x ≡ true) order samples fit) in
    let coefficients_read : times order (signed precise) (d ++ (e ++ rest)) ≡ Ok (record { value = coefficients; rest = e ++ rest }) =
    each-back precise coefficients (e ++ rest) (omega arith) good in
    rw (append_assoc a (b ++ (c ++ (d ++ e))) rest)
    (rw (append_assoc b (c ++ (d ++ e)) rest)
    (rw (append_assoc c (d ++ e) rest)
    (rw (append_assoc d e rest)
    (rw warm_read
    (rw (precision-back precise (c ++ (d ++ (e ++ rest))) low high)
    (rw (shift-back shift (d ++ (e ++ rest)) moved)
    (rw coefficients_read
    (rw (residuals-bits choice (length samples) order (residuals_by coefficients shift order samples) rest h)
    (rw (samples-restored width coefficients shift order samples fit) refl)))))))))

-- the samples of a block by a predictor
predictor-back : (predictor : Predictor) (width : ℕ) (samples : List ℤ) (rest : List Bool) → 0 < width → All (λ x. fits width x ≡ true) samples
    → MayPredict predictor width samples
    → samples_of_kind (kind_of predictor) width (length samples) (predictor_bits predictor width samples ++ rest)
    ≡ Ok (record { value = samples; rest = rest })
unfolding samples_of_kind
predictor-back Constant width [] rest some fit h = absurd h
predictor-back Constant width (sample ∷ samples) rest some fit h = constant-back width sample samples rest some (fit 0 sample (omega arith)) h
predictor-back Verbatim width samples rest some fit h = verbatim-back width samples rest some fit
predictor-back (Fixed order choice) width samples rest some fit h =
    let not_constant : (8 + order == 0) ≡ false = grind arith in
    let not_verbatim : (8 + order == 1) ≡ false = grind arith in
    let low : nat_le 8 (8 + order) ≡ true = grind arith in
    let high : nat_le (8 + order) 12 ≡ true = let top : order ≤ 4 = h.0 in grind arith in
    let same : 8 + order - 8 ≡ order = omega arith in
    rw not_constant (rw not_verbatim (rw low (rw high (rw same (fixed-back width order choice samples rest some fit h.1 h.2)))))
predictor-back (Linear coefficients precision shift choice) width samples rest some fit h =
    let n : ℕ = length coefficients in
    let bottom : 1 ≤ n = h.0 in
    let top : n ≤ 32 = h.1 in
    let not_constant : (31 + n == 0) ≡ false = grind arith in
    let not_verbatim : (31 + n == 1) ≡ false = grind arith in
    let not_fixed : nat_le (31 + n) 12 ≡ false = grind arith in
    let low : nat_le 8 (31 + n) ≡ true = grind arith in
    let known : nat_le 32 (31 + n) ≡ true = grind arith in
    let same : 31 + n - 31 ≡ n = omega arith in
    rw not_constant (rw not_verbatim (rw low (rw not_fixed (rw known (rw same
    (linear-back width coefficients precision shift choice samples rest some fit h.2 h.3 h.4 h.5 h.6 h.7))))))

kind_below : (predictor : Predictor) (width : ℕ) (samples : List ℤ) → MayPredict predictor width samples → kind_of predictor < 64
kind_below Constant width samples h = omega arith
kind_below Verbatim width samples h = omega arith
kind_below (Fixed order choice) width samples h = let top : order ≤ 4 = h.0 in omega arith
kind_below (Linear coefficients precision shift choice) width samples h = let top : length coefficients ≤ 32 = h.1 in omega arith

kind-back : (kind : ℕ) (rest : List Bool) → kind < 64 → kind_code (bits_of_number 7 kind ++ rest) ≡ Ok (record { value = kind; rest = rest })
unfolding kind_code
kind-back kind rest h =
    let known : nat_lt kind 64 ≡ true = grind arith in
    rw (unsigned-bits 7 kind rest (omega arith)) (rw known refl)

narrowed-below : (width wasted n : ℕ) → wasted < width → nat_lt n (2 ^ (width - 1)) ≡ true → nat_lt (n / 2 ^ wasted) (2 ^ (width - wasted - 1)) ≡ true
narrowed-below width wasted n some h =
    let below : n < 2 ^ (width - 1) = grind arith in
    let parts : width - 1 ≡ width - wasted - 1 + wasted = omega arith in
    let product : n < 2 ^ (width - wasted - 1) * 2 ^ wasted = rw (sym (pow-add 2 (width - wasted - 1) wasted)) (rw (sym parts) below) in
    let less : n / 2 ^ wasted < 2 ^ (width - wasted - 1) = div_below n (2 ^ wasted) (2 ^ (width - wasted - 1)) (pow_pos wasted) product in
    grind arith

-- a sample without its low bits has as many bits less
narrowed-fits : (width wasted : ℕ) (sample : ℤ) → wasted < width → fits width sample ≡ true → fits (width - wasted) (narrowed wasted sample) ≡ true
narrowed-fits width wasted (pos n) some h = narrowed-below width wasted n some h
narrowed-fits width wasted (negsuc n) some h = narrowed-below width wasted n some h

each-narrowed : (width wasted : ℕ) (samples : List ℤ) → wasted < width → All (λ x. fits width x ≡ true) samples
    → All (λ x. fits (width - wasted) x ≡ true) (map (narrowed wasted) samples)
each-narrowed width wasted [] some fit = All-nil (λ x. fits (width - wasted) x ≡ true)
each-narrowed width wasted (sample ∷ samples) some fit =
    All-cons (λ x. fits (width - wasted) x ≡ true) (narrowed wasted sample) (map (narrowed wasted) samples)
    (narrowed-fits width wasted sample some (fit 0 sample (omega arith)))
    (each-narrowed width wasted samples some (λ k d h. fit (suc k) d (omega arith)))

each-widened : (wasted : ℕ) (samples : List ℤ) → All (λ x. widened wasted (narrowed wasted x) ≡ x) samples
    → map (widened wasted) (map (narrowed wasted) samples) ≡ samples
each-widened wasted [] same = refl
each-widened wasted (sample ∷ samples) same =
    let here : widened wasted (narrowed wasted sample) ≡ sample = same 0 sample (omega arith) in
    rw here (ap (λ rest. sample ∷ rest) (each-widened wasted samples (λ k d h. same (suc k) d (omega arith))))

pub subframe-back : (choice : SubframeChoice) (width : ℕ) (samples : List ℤ) (rest : List Bool)
    → All (λ x. fits width x ≡ true) samples → MayTell choice width samples
    → subframe width (length samples) (subframe_bits choice width samples ++ rest) ≡ Ok (record { value = samples; rest = rest })
unfolding subframe
subframe-back choice width samples rest fit h =
    let coded : List ℤ = map (narrowed choice.wasted) samples in
    let kind : List Bool = bits_of_number 7 (kind_of choice.predictor) in
    let flag : List Bool = wasted_flag choice.wasted in
    let body : List Bool = predictor_bits choice.predictor (width - choice.wasted) coded in
    let some : nat_lt choice.wasted width ≡ true = let e : choice.wasted < width = h.some in grind arith in
    let size : length coded ≡ length samples = length-map samples (narrowed choice.wasted) in
    let kind_read : kind_code (kind ++ (flag ++ (body ++ rest))) ≡ Ok (record { value = kind_of choice.predictor; rest = flag ++ (body ++ rest) }) =
    kind-back (kind_of choice.predictor) (flag ++ (body ++ rest)) (kind_below choice.predictor (width - choice.wasted) coded h.predictor) in
    let read : samples_of_kind (kind_of choice.predictor) (width - choice.wasted) (length samples) (body ++ rest)
    ≡ Ok (record { value = coded; rest = rest }) =
    rw size at (predictor-back choice.predictor (width - choice.wasted) coded rest (let e : choice.wasted < width = h.some in omega arith)
    (each-narrowed width choice.wasted samples h.some fit) h.predictor) in
    let whole : map (widened choice.wasted) coded ≡ samples = each-widened choice.wasted samples h.zeros in
    rw (append_assoc kind (flag ++ body) rest) (rw (append_assoc flag body rest)
    (rw kind_read (rw (wasted-back choice.wasted (body ++ rest)) (rw some (rw read (rw whole refl))))))
