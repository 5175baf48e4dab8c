-- The frames that an order asks for are whole ones of 16 bits.
use Rattle.std.proofs.Common.{◌≡◌, ◌<◌, ◌≤◌, ◌+◌, ◌-◌, ◌*◌, ◌/◌, ℕ, zero, suc, List, [], ◌∷◌, length, drop, map, slice_range}
use Rattle.std.proofs.Common.{refl, sym, ap, ◌∙◌, subst, arith, ℤ, pos, min, All, w16}
use Rattle.std.specs.Prelude.{FitsSigned, int_div}
use Rattle.std.proofs.lemmas.Int.{ints}
use Rattle.std.proofs.lemmas.List.{length-map, length-take, length-drop}
use Rattle.std.proofs.lemmas.List.Elements.{All-nil, All-cons, All-head, All-tail, All-take, All-drop, All-map, All-weaker}
use Rattle.std.proofs.Math.Nat.{mul-le-mul_left}
use Rattle.wave_pcm.specs.Pcm.{samples_in, frames_from, frame_len, range_from, at_volume, HasFrames}
use Rattle.wave_pcm.specs.declared.info.WaveInfo.{WaveInfo}
use Rattle.wave_pcm.proofs.FrameList.{frames_are}
use Rattle.song_files.proofs.Ranges.{range_is}
use Rattle.song_output.specs.OwnFile.{AreFrames}
use Rattle.song_output.specs.Sound.{frames_given, most_frames}
use Rattle.song_output.proofs.Samples.{sample_of}
use lib.IntN.{negsuc, neg_ℤ}

sample_fits : (low high : ℕ) → low < 256 → high < 256 → FitsSigned w16 (sample_of low high)
sample_fits low high l h = search (arith, ints)

all_fit : (bytes : List ℕ) → All (λ b. b < 256) bytes → All (FitsSigned w16) (samples_in bytes)
all_fit [] are = All-nil (FitsSigned w16)
all_fit (a ∷ []) are = All-nil (FitsSigned w16)
all_fit (a ∷ b ∷ bytes) are =
    let rest : All (λ b. b < 256) (b ∷ bytes) = All-tail (λ b. b < 256) a (b ∷ bytes) are in
    All-cons (FitsSigned w16) (sample_of a b) (samples_in bytes)
    (sample_fits a b (All-head (λ b. b < 256) a (b ∷ bytes) are) (All-head (λ b. b < 256) b bytes rest))
    (all_fit bytes (All-tail (λ b. b < 256) b bytes rest))

divided : (m : ℕ) → int_div (neg_ℤ (pos m)) (pos 100) ≡ neg_ℤ (pos (m / 100))
divided zero = refl
divided (suc m) = refl

negative_fits : (q : ℕ) → q ≤ 32768 → FitsSigned w16 (neg_ℤ (pos q))
negative_fits zero few = record { sfits = omega arith }
negative_fits (suc q) few = record { sfits = omega arith }

-- a volume makes no sample greater
scaled_fits : (volume : ℕ) (z : ℤ) → volume ≤ 100 → FitsSigned w16 z → FitsSigned w16 (at_volume volume z)
scaled_fits volume (pos n) within fits =
    let most : n * volume ≤ n * 100 = mul-le-mul_left n within in
    let small : n < 32768 = fits.sfits in
    record { sfits = omega arith }
scaled_fits volume (negsuc n) within fits =
    let most : suc n * volume ≤ suc n * 100 = mul-le-mul_left (suc n) within in
    let small : n < 32768 = fits.sfits in
    subst (FitsSigned w16) (sym (divided (suc n * volume))) (negative_fits (suc n * volume / 100) (omega arith))

length-samples_in : (n : ℕ) (bytes : List ℕ) → length bytes ≡ 2 * n → length (samples_in bytes) ≡ n
length-samples_in zero [] long = refl
length-samples_in zero (a ∷ bytes) long = absurd (omega arith)
length-samples_in (suc n) [] long = absurd (omega arith)
length-samples_in (suc n) (a ∷ []) long = absurd (omega arith)
length-samples_in (suc n) (a ∷ b ∷ bytes) long = ap suc (length-samples_in n bytes (omega arith))

-- so many frames from one on are there
room : (l frames first count : ℕ) → first ≤ frames → count ≤ frames - first → l * first + l * count ≤ l * frames
room l frames first count within few =
    let sum : l * (first + count) ≤ l * frames = mul-le-mul_left l (omega arith) in omega arith

module _ (file : List ℕ) (info : WaveInfo) (first volume : ℕ) (has : HasFrames info file) where
  abbrev start : ℕ
  start = (range_from info first 4096).0

  abbrev bytes : ℕ
  bytes = (range_from info first 4096).1

  abbrev found : List ℕ
  found = slice_range file start (start + bytes)

  left : bytes ≡ frame_len info * frames_given info first
  left = let e : min (info.frames - min first info.frames) 4096 ≡ min (info.frames - first) 4096 = omega arith in
      ap (λ n. frame_len info * n) e

  inside : start + bytes ≤ length file
  inside =
      let fits : frame_len info * min first info.frames + frame_len info * min (info.frames - min first info.frames) 4096 ≤ frame_len
      info * info.frames = room (frame_len info) info.frames (min first info.frames) (min (info.frames - min first info.frames) 4096)
      (omega arith) (omega arith) in
      omega (arith, has)

  long : length found ≡ 2 * (info.channels * frames_given info first)
  long =
      let size : length found ≡ bytes = ap length (range_is file start bytes) ∙ length-take bytes (drop start file)
      ∙ (omega (arith, length-drop start file, inside)) in
      size ∙ left ∙ (omega arith)

  pub are_frames : All (λ b. b < 256) file → volume ≤ 100 → 0 < frames_given info first
      → AreFrames info (frames_given info first) (map (at_volume volume) (frames_from file info first most_frames))
  are_frames are within some = record {
    some = some;
    few = omega arith;
    whole = length-map (frames_from file info first most_frames) (at_volume volume)
        ∙ ap length (frames_are file info first 4096)
        ∙ length-samples_in (info.channels * frames_given info first) found long;
    fit = All-map (FitsSigned w16) (at_volume volume) (frames_from file info first most_frames)
        (All-weaker (FitsSigned w16) (λ z. FitsSigned w16 (at_volume volume z)) (λ z. scaled_fits volume z within)
        (frames_from file info first most_frames)
        (subst (All (FitsSigned w16)) (sym (frames_are file info first 4096))
        (all_fit found (All-take (λ b. b < 256) (start + bytes - start) (drop start file) (All-drop (λ b. b < 256) start file are)))));
  }
