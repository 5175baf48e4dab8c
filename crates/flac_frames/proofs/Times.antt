-- Readings one behind the other, into a slice.
use Rattle.std.proofs.Common.{◌≡◌, ℕ, suc, ◌+◌, ◌-◌, ◌<◌, ◌≤◌, Bool, List, [], ◌∷◌, ◌++◌, length, take, set, refl, sym, ◌∙◌, arith, append_assoc, Result, Ok, Err, ℤ, true}
use Rattle.std.proofs.lemmas.List.{take_more_set, take_all, append-nil}
use Rattle.std.proofs.lemmas.List.Elements.{All-push, All-nil}
use Rattle.flac_frames.specs.Bits.{fits}
use Rattle.flac_frames.specs.AllFit.{AllFit}
use Rattle.flac_frames.specs.Reading.{Read, Reader, giving, after, times}
use Rattle.flac_frames.specs.declared.refusal.FrameError.{FrameError}

-- what was read behind what had been read
abbrev pub behind : {A : Type 0} → List A → Result (Read (List A)) FrameError → Result (Read (List A)) FrameError
behind front (Ok read) = Ok (record { value = front ++ read.value; rest = read.rest })
behind front (Err error) = Err error

pub behind-none : {A : Type 0} (r : Result (Read (List A)) FrameError) → behind [] r ≡ r
behind-none (Ok read) = refl
behind-none (Err error) = refl

behind-cons : {A : Type 0} (front : List A) (x : A) (r : Result (Read (List A)) FrameError)
    → behind front (after r (λ values. giving (x ∷ values))) ≡ behind (front ++ x ∷ []) r
behind-cons front x (Ok read) = rw (append_assoc front (x ∷ []) read.value) refl
behind-cons front x (Err error) = refl

pub times_more : {A : Type 0} (reader : Reader A) (front : List A) (m : ℕ) (value : A) (bits rest : List Bool)
    → reader bits ≡ Ok (record { value = value; rest = rest })
    → behind front (times (suc m) reader bits) ≡ behind (front ++ value ∷ []) (times m reader rest)
unfolding times
times_more reader front m value bits rest h = rw h (behind-cons front value (times m reader rest))

-- one step of a loop that fills a slice
pub times_step : {A : Type 0} (reader : Reader A) (out : List A) (i n : ℕ) (value : A) (bits rest : List Bool) (all : Result (Read (List A)) FrameError)
    → length out ≡ n → i < n → reader bits ≡ Ok (record { value = value; rest = rest })
    → behind (take i out) (times (n - i) reader bits) ≡ all
    → behind (take (i + 1) (set out i value)) (times (n - (i + 1)) reader rest) ≡ all
times_step reader out i n value bits rest all len h r before =
    let m : n - i ≡ suc (n - (i + 1)) = omega arith in
    let t : take (i + 1) (set out i value) ≡ take i out ++ value ∷ [] = take_more_set out i value (omega arith) in
    let s : behind (take i out) (times (suc (n - (i + 1))) reader bits) ≡ behind (take i out ++ value ∷ []) (times (n - (i + 1)) reader rest)
    = times_more reader (take i out) (n - (i + 1)) value bits rest r in
    rw t (sym s ∙ (rw m at before))

pub times_err : {A : Type 0} (reader : Reader A) (out : List A) (i n : ℕ) (bits : List Bool) (error : FrameError) (all : Result (Read (List A)) FrameError)
    → i < n → reader bits ≡ Err error
    → behind (take i out) (times (n - i) reader bits) ≡ all → all ≡ Err error
unfolding times
times_err reader out i n bits error all h r before =
    let m : n - i ≡ suc (n - (i + 1)) = omega arith in
    sym before ∙ rw m (rw r refl)

pub times_end : {A : Type 0} (reader : Reader A) (out : List A) (i n : ℕ) (bits : List Bool) (all : Result (Read (List A)) FrameError)
    → length out ≡ n → n ≤ i → behind (take i out) (times (n - i) reader bits) ≡ all → all ≡ Ok (record { value = out; rest = bits })
unfolding times
times_end reader out i n bits all len h before =
    let m : n - i ≡ 0 = omega arith in
    let t : take i out ≡ out = take_all i out (omega arith) in
    sym before ∙ rw (m, t) (rw (append-nil out) refl)

pub fits_step : (width : ℕ) (out : List ℤ) (i : ℕ) (value : ℤ) → i < length out → AllFit width (take i out) → fits width value ≡ true
    → AllFit width (take (i + 1) (set out i value))
fits_step width out i value h all one =
    rw (take_more_set out i value h) (All-push (λ sample. fits width sample ≡ true) (take i out) value all one)

pub fits_none : (width : ℕ) (out : List ℤ) → AllFit width (take 0 out)
fits_none width out = All-nil (λ sample. fits width sample ≡ true)

pub fits_all : (width : ℕ) (out : List ℤ) (i : ℕ) → length out ≤ i → AllFit width (take i out) → AllFit width out
fits_all width out i h all = rw (take_all i out h) at all
