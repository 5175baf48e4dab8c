-- A frame that was decoded.
use Rattle.std.proofs.Common.{◌≡◌, ℕ, zero, suc, ◌+◌, ◌*◌, ◌<◌, ◌≤◌, List, [], ◌∷◌, length, take, min, arith, ap, ◌∙◌, sym, refl, Bool, true, false}
use Rattle.std.proofs.Common.{Ok, Err, Some, None, subst}
use Rattle.std.specs.Option.{option_or}
use Rattle.std.specs.Prelude.{ℤ, Option, Result, IsErr, slice_get, nat_lt, nat_le, ◌==◌, ◌&&◌, if◌then◌else◌}
use Rattle.flac_frames.specs.Frame.{Frame, Framed, frame_of}
use Rattle.flac_frames.specs.declared.refusal.FrameError.{FrameError}
use Rattle.flac.specs.Frames.{stream_of, has_format, belongs, accepted, frame_in, frame_room, next_frame, in_turn, side_by_side}
use Rattle.flac.specs.Limits.{MAX_FRAME_BYTES}
use Rattle.flac.specs.Reader.{AreDecoded, IsRefused}
use Rattle.flac.specs.declared.decoding.Decoded.{Decoded}
use Rattle.flac.specs.declared.stream_info.StreamInfo.{StreamInfo}

pub length-in_turn : (xs ys : List ℤ) → length (in_turn xs ys) ≡ 2 * min (length xs) (length ys)
length-in_turn [] ys = omega arith
length-in_turn (x ∷ xs) [] = omega arith
length-in_turn (x ∷ xs) (y ∷ ys) = let e : length (in_turn xs ys) ≡ 2 * min (length xs) (length ys) = length-in_turn xs ys in omega arith

some_same : {A : Type 0} (x y : A) → Some x ≡ Some y → x ≡ y
some_same x y h = cc

not_none : {A : Type 0} (x : A) → None ≡ Some x → ⊥
not_none x h = cc

pub size_two : (channels : List (List ℤ)) (left right : List ℤ) → Some left ≡ slice_get channels 0 → Some right ≡ slice_get channels 1
    → 2 * min (length left) (length right) ≡ length (side_by_side channels)
size_two [] left right first second = absurd (not_none left (sym first))
size_two (xs ∷ []) left right first second = absurd (not_none right (sym second))
size_two (xs ∷ ys ∷ others) left right first second =
    let l : length left ≡ length xs = ap length (some_same left xs first) in
    let r : length right ≡ length ys = ap length (some_same right ys second) in
    let e : length (in_turn xs ys) ≡ 2 * min (length xs) (length ys) = length-in_turn xs ys in
    omega arith

frame_is : (info : StreamInfo) (bytes : List ℕ) → frame_in info bytes ≡ accepted info (length bytes) (frame_of (stream_of info) bytes)
unfolding frame_in
frame_is info bytes = refl

-- as the code tests it
pub frame_by_test : (info : StreamInfo) (bytes : List ℕ) (framed : Framed) (size : ℕ) (b : Bool)
    → frame_of (stream_of info) bytes ≡ Ok framed → size ≡ length (side_by_side framed.frame.samples)
    → (has_format info framed.frame.head && nat_lt 0 framed.used && nat_le framed.used (length bytes) && size == info.channels *
    framed.frame.head.block_size) ≡ b
    → frame_in info bytes ≡ (if b then Some framed else None)
frame_by_test info bytes framed size b read sized test =
    frame_is info bytes ∙ ap (accepted info (length bytes)) read
    ∙ ap (λ (t : Bool). if t then Some framed else None) (ap (λ n. has_format info framed.frame.head && nat_lt 0 framed.used && nat_le
    framed.used (length bytes) && n == info.channels * framed.frame.head.block_size) (sym sized) ∙ test)

pub is_none : (frame : Option Framed) (samples : List (List ℤ)) → frame ≡ None → AreDecoded frame None samples
is_none None samples none = tt
is_none (Some framed) samples none = cc

pub is_some : (frame : Option Framed) (framed : Framed) (decoded : Decoded) (samples : List (List ℤ)) → frame ≡ Some framed
    → framed.used ≡ decoded.used → framed.frame.samples ≡ samples → length (side_by_side samples) ≡ decoded.size
    → AreDecoded frame (Some decoded) samples
is_some frame framed decoded samples some used same size =
    subst (λ (f : Option Framed). AreDecoded f (Some decoded) samples) (sym some) (used, same, size)

refused_frame : (info : StreamInfo) (size : ℕ) (reading : Result Framed FrameError) → IsErr reading → accepted info size reading ≡ None
refused_frame info size (Ok framed) h = cc
refused_frame info size (Err e) h = refl

pub none_by : (info : StreamInfo) (bytes : List ℕ) (found : Option Decoded) (samples : List (List ℤ)) → found ≡ None
    → IsErr (frame_of (stream_of info) bytes) → AreDecoded (frame_in info bytes) found samples
none_by info bytes found samples none refused =
    subst (λ (f : Option Decoded). AreDecoded (frame_in info bytes) f samples) (sym none)
    (is_none (frame_in info bytes) samples (frame_is info bytes ∙ refused_frame info (length bytes) (frame_of (stream_of info) bytes) refused))

next_is : (info : StreamInfo) (bytes : List ℕ)
    → next_frame info bytes ≡ option_or (frame_in info (take (frame_room info) bytes)) (frame_in info (take MAX_FRAME_BYTES bytes))
unfolding next_frame
next_is info bytes = refl

first_or : (o p : Option Framed) (decoded : Decoded) (samples : List (List ℤ)) → AreDecoded o (Some decoded) samples
    → AreDecoded (option_or o p) (Some decoded) samples
first_or None p decoded samples h = absurd h
first_or (Some framed) p decoded samples h = h

other_or : (o p : Option Framed) (found : Option Decoded) (before samples : List (List ℤ)) → AreDecoded o None before
    → AreDecoded p found samples → AreDecoded (option_or o p) found samples
other_or None p found before samples none h = h
other_or (Some framed) p found before samples none h = absurd none

-- a frame that STREAMINFO's bytes hold
pub found_first : (info : StreamInfo) (bytes : List ℕ) (room : ℕ) (decoded : Decoded) (samples : List (List ℤ)) → room ≡ frame_room info
    → AreDecoded (frame_in info (take room bytes)) (Some decoded) samples
    → AreDecoded (next_frame info bytes) (Some decoded) samples
found_first info bytes room decoded samples same h =
    let first : AreDecoded (frame_in info (take (frame_room info) bytes)) (Some decoded) samples
    = subst (λ n. AreDecoded (frame_in info (take n bytes)) (Some decoded) samples) same h in
    subst (λ (o : Option Framed). AreDecoded o (Some decoded) samples) (sym (next_is info bytes)) (first_or (frame_in info (take (frame_room info) bytes)) (frame_in info (take MAX_FRAME_BYTES bytes)) decoded samples first)

-- or one that is longer
pub found_longer : (info : StreamInfo) (bytes : List ℕ) (room : ℕ) (found : Option Decoded) (before samples : List (List ℤ))
    → room ≡ frame_room info
    → AreDecoded (frame_in info (take room bytes)) None before
    → AreDecoded (frame_in info (take MAX_FRAME_BYTES bytes)) found samples
    → AreDecoded (next_frame info bytes) found samples
found_longer info bytes room found before samples same none h =
    let first : AreDecoded (frame_in info (take (frame_room info) bytes)) None before
    = subst (λ n. AreDecoded (frame_in info (take n bytes)) None before) same none in
    subst (λ (o : Option Framed). AreDecoded o found samples) (sym (next_is info bytes)) (other_or (frame_in info (take (frame_room info) bytes)) (frame_in info (take MAX_FRAME_BYTES bytes)) found
    before samples first h)
