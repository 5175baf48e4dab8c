-- The samples of the frames, one frame at a time.
use Rattle.std.proofs.Common.{◌≡◌, ℕ, zero, suc, ◌+◌, ◌-◌, ◌*◌, ◌<◌, ◌≤◌, List, [], ◌∷◌, ◌++◌, length, take, drop, arith, ap, ◌∙◌, sym, refl}
use Rattle.std.proofs.Common.{Bool, true, false, Ok, Err, Some, None, subst}
use Rattle.std.specs.Prelude.{ℤ, Option, Result, nat_lt, nat_le, ◌==◌, ◌&&◌, if◌then◌else◌}
use Rattle.std.specs.List.{flat_map}
use Rattle.std.proofs.Math.Nat.{mul-le-mul_left}
use Rattle.std.proofs.lemmas.List.{drop_all, take_at, drop_at, length-drop, length-append, drop-drop}
use Rattle.std.proofs.lemmas.Bool.Decides.{nat_tests}
use Rattle.flac_frames.specs.Frame.{Frame, Framed, frame_of}
use Rattle.flac_frames.specs.declared.refusal.FrameError.{FrameError}
use Rattle.flac.specs.Frames.{stream_of, belongs, accepted, next_frame, frame_then, frames_after, frames_of, side_by_side, samples_in}
use Rattle.flac.specs.Reader.{AreDecoded, all_samples, IsPlace, AreHeld}
use Rattle.flac.specs.declared.decoding.Decoded.{Decoded}
use Rattle.flac.specs.declared.places.Place.{Place}
use Rattle.flac.specs.declared.places.Held.{Held}
use Rattle.flac.specs.declared.stream_info.StreamInfo.{StreamInfo}

pub no_bytes : (info : StreamInfo) (skip : ℕ) → frames_after info skip [] ≡ []
unfolding frames_after
no_bytes info zero = refl
no_bytes info (suc skip) = refl

pub frames_after-drop : (info : StreamInfo) (skip : ℕ) (bytes : List ℕ) → frames_after info skip bytes ≡ frames_after info 0 (drop skip bytes)
unfolding frames_after
frames_after-drop info zero bytes = refl
frames_after-drop info (suc skip) [] = refl
frames_after-drop info (suc skip) (b ∷ bytes) = frames_after-drop info skip bytes

first_frame : (info : StreamInfo) (b : ℕ) (bytes : List ℕ)
    → frames_of info (b ∷ bytes)
    ≡ frame_then (next_frame info (b ∷ bytes)) (λ used. frames_after info (used - 1) bytes)
unfolding frames_after
first_frame info b bytes = refl

behind : (info : StreamInfo) (used b : ℕ) (bytes : List ℕ) → 0 < used
    → frames_after info (used - 1) bytes ≡ frames_of info (drop used (b ∷ bytes))
behind info used b bytes some =
    let e : used ≡ suc (used - 1) = omega arith in
    frames_after-drop info (used - 1) bytes ∙ sym (ap (λ n. frames_of info (drop n (b ∷ bytes))) e)

-- the first frame and those behind it
pub frames_more : (info : StreamInfo) (bytes : List ℕ) (framed : Framed) → 0 < framed.used → framed.used ≤ length bytes
    → next_frame info bytes ≡ Some framed
    → frames_of info bytes ≡ framed.frame ∷ frames_of info (drop framed.used bytes)
frames_more info [] framed some within found = absurd (omega arith)
frames_more info (b ∷ bytes) framed some within found =
    first_frame info b bytes ∙ ap (λ f. frame_then f (λ used. frames_after info (used - 1) bytes)) found
    ∙ ap (λ fs. framed.frame ∷ fs) (behind info framed.used b bytes some)

pub frames_end : (info : StreamInfo) (bytes : List ℕ) → next_frame info bytes ≡ None → frames_of info bytes ≡ []
frames_end info [] none = no_bytes info 0
frames_end info (b ∷ bytes) none = first_frame info b bytes ∙ ap (λ f. frame_then f (λ used. frames_after info (used - 1) bytes)) none

abbrev sounds : List Frame → List ℤ
sounds frames = flat_map (λ (frame : Frame). side_by_side frame.samples) frames

samples_are : (info : StreamInfo) (bytes : List ℕ) → samples_in info bytes ≡ sounds (frames_of info bytes)
unfolding samples_in
samples_are info bytes = refl

pub samples_more : (info : StreamInfo) (bytes : List ℕ) (framed : Framed) → 0 < framed.used → framed.used ≤ length bytes
    → next_frame info bytes ≡ Some framed
    → samples_in info bytes ≡ side_by_side framed.frame.samples ++ samples_in info (drop framed.used bytes)
samples_more info bytes framed some within found =
    samples_are info bytes ∙ ap sounds (frames_more info bytes framed some within found)
    ∙ sym (ap (λ ss. side_by_side framed.frame.samples ++ ss) (samples_are info (drop framed.used bytes)))

pub samples_end : (info : StreamInfo) (bytes : List ℕ) → next_frame info bytes ≡ None → samples_in info bytes ≡ []
samples_end info bytes none = samples_are info bytes ∙ ap sounds (frames_end info bytes none)

pub samples_none : (info : StreamInfo) (bytes : List ℕ) → bytes ≡ [] → samples_in info bytes ≡ []
samples_none info bytes none = ap (samples_in info) none ∙ samples_are info [] ∙ ap sounds (no_bytes info 0)

-- places and what is held
pub first_place : (info : StreamInfo) (start : ℕ) (file : List ℕ) → IsPlace info start file (record { sample = 0; offset = start })
first_place info start file =
    let z : info.channels * 0 ≡ 0 = omega arith in record {
      within = omega arith;
      there = ap (λ n. drop n (all_samples info start file)) z;
    }

no_more : (n : ℕ) (xs ys : List ℤ) → n ≤ length xs → drop n xs ≡ ys → ys ≡ [] → length xs ≤ n
no_more n xs ys within same none = omega (arith, length-drop n xs, ap length (same ∙ none))

-- behind the last frame
pub place_end : (info : StreamInfo) (start sample : ℕ) (file : List ℕ) (place : Place) → IsPlace info start file place → place.sample ≤ sample
    → samples_in info (drop place.offset file) ≡ [] → length (all_samples info start file) ≤ info.channels * sample
place_end info start sample file place is before none =
    let last : length (all_samples info start file) ≤ info.channels * place.sample
    = no_more (info.channels * place.sample) (all_samples info start file) (samples_in info (drop place.offset file)) is.within is.there none in
    omega (arith, last, mul-le-mul_left info.channels before)

pub offset_end : (info : StreamInfo) (file : List ℕ) (offset : ℕ) → length file ≤ offset → samples_in info (drop offset file) ≡ []
offset_end info file offset past = samples_none info (drop offset file) (drop_all offset file past)

abbrev the_place : ℕ → ℕ → Place
the_place sample offset = record { sample = sample; offset = offset }

-- a frame at a place, and the place behind it
pub held_is : (info : StreamInfo) (start : ℕ) (file : List ℕ) (at : Place) (framed : Framed) (count offset : ℕ)
    → IsPlace info start file at → 0 < framed.used → framed.used ≤ length (drop at.offset file)
    → next_frame info (drop at.offset file) ≡ Some framed
    → length (side_by_side framed.frame.samples) ≡ info.channels * count → offset ≡ at.offset + framed.used
    → AreHeld info start file (side_by_side framed.frame.samples) (record { first = at.sample; count = count; offset = offset })
held_is info start file at framed count offset is some within found size here =
    let c = info.channels in
    let all = all_samples info start file in
    let xs = side_by_side framed.frame.samples in
    let rest = samples_in info (drop framed.used (drop at.offset file)) in
    let cut : drop (info.channels * at.sample) (all_samples info start file) ≡ side_by_side framed.frame.samples ++ samples_in info (drop framed.used (drop at.offset file))
    = is.there ∙ samples_more info (drop at.offset file) framed some within found in
    let long : length (all_samples info start file) - info.channels * at.sample ≡ info.channels * count + length rest
    = sym (length-drop (c * at.sample) all) ∙ ap length cut ∙ length-append xs rest ∙ ap (λ n. n + length rest) size in
    let sum : info.channels * (at.sample + count) ≡ info.channels * at.sample + info.channels * count = omega arith in
    let more : drop (info.channels * (at.sample + count)) (all_samples info start file) ≡ samples_in info (drop framed.used (drop at.offset file))
    = ap (λ n. drop n all) sum ∙ sym (drop-drop (c * count) (c * at.sample) all) ∙ ap (drop (c * count)) cut ∙ drop_at xs rest (c * count) size in
    let there : drop framed.used (drop at.offset file) ≡ drop offset file
    = drop-drop framed.used at.offset file ∙ ap (λ n. drop n file) (sym here) in record {
      size = size;
      here = ap (take (c * count)) cut ∙ take_at xs rest (c * count) size;
      next = record { within = omega (arith, is.within, long, sum); there = more ∙ ap (samples_in info) there };
    }

pub none_is : (frame : Option Framed) (samples : List (List ℤ)) → AreDecoded frame None samples → frame ≡ None
none_is None samples h = refl
none_is (Some framed) samples h = absurd h

-- the frame that was decoded at a place
pub held_by : (info : StreamInfo) (start : ℕ) (file : List ℕ) (at : Place) (frame : Option Framed) (decoded : Decoded)
    (samples : List (List ℤ)) → frame ≡ next_frame info (drop at.offset file) → AreDecoded frame (Some decoded) samples
    → IsPlace info start file at → 0 < decoded.used → at.offset + decoded.used ≤ length file → decoded.size ≡ info.channels * decoded.count
    → AreHeld info start file (side_by_side samples) (record {
      first = at.sample;
      count = decoded.count;
      offset = at.offset + decoded.used;
    })
held_by info start file at None decoded samples same found is some within sized = absurd found
held_by info start file at (Some framed) decoded samples same found is some within sized =
    let used : framed.used ≡ decoded.used = found.0 in
    let size : length (side_by_side framed.frame.samples) ≡ info.channels * decoded.count
    = ap (λ (ss : List (List ℤ)). length (side_by_side ss)) found.1 ∙ found.2 ∙ sized in
    subst (λ (ss : List (List ℤ)). AreHeld info start file (side_by_side ss) (record {
      first = at.sample;
      count = decoded.count;
      offset = at.offset + decoded.used;
    })) found.1
    (held_is info start file at framed decoded.count (at.offset + decoded.used) is (omega (arith, used)) (omega (
      arith,
      used,
      length-drop at.offset file,
    )) (sym same) size (ap (λ n. at.offset + n) (sym used)))

-- behind the last frame stand as many samples as there are
pub count_end : (info : StreamInfo) (start : ℕ) (file : List ℕ) (place : Place) → IsPlace info start file place
    → samples_in info (drop place.offset file) ≡ [] → info.channels * place.sample ≡ length (all_samples info start file)
count_end info start file place is none =
    let last : length (all_samples info start file) ≤ info.channels * place.sample
    = no_more (info.channels * place.sample) (all_samples info start file) (samples_in info (drop place.offset file)) is.within is.there none in
    omega (arith, last, is.within)
