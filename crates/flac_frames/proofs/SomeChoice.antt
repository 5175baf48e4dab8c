-- Each frame can be written: its samples as they are, and what its head tells by the codes that refer to the stream.
use Rattle.std.proofs.Common.{◌≡◌, ℕ, suc, ◌*◌, ◌/◌, ◌^◌, ◌<◌, ◌≤◌, Bool, true, List, [], ◌∷◌, refl, ap, arith, Ok, ℤ, pos, negsuc}
use Rattle.std.specs.Prelude.{nat_le}
use Rattle.std.proofs.Math.Nat.{div-eq_of_lt}
use Rattle.flac_frames.specs.Subframe.{widened}
use Rattle.flac_frames.specs.FrameHead.{sample_bits_of, coded_rate}
use Rattle.flac_frames.specs.Frame.{Frame}
use Rattle.flac_frames.specs.Decorrelation.{first_width, second_width, each_pair}
use Rattle.flac_frames.specs.Choices.{SubframeChoice, Verbatim, narrowed}
use Rattle.flac_frames.specs.FrameChoices.{FrameChoice, WordSize, TableRate, first_of, second_of}
use Rattle.flac_frames.specs.MayEncode.{MayTell}
use Rattle.flac_frames.specs.MayEncodeFrame.{MayTellHead, MayTellSound, MayEncode, IsSound, CanBeEncoded}
use Rattle.flac_frames.specs.declared.head.Stream.{Stream}
use Rattle.flac_frames.specs.declared.head.FrameHead.{FrameHead}
use Rattle.flac_frames.specs.declared.head.Channels.{Channels}
use Rattle.flac_frames.specs.declared.head.Channels.TheVariants.{Mono, Stereo, LeftSide, SideRight, MidSide}

plain : SubframeChoice
plain = record { predictor = Verbatim; wasted = 0 }

plain_frame : FrameChoice
plain_frame = record { size = WordSize; rate = TableRate 0; bits = 0; further = 6; first = plain; second = plain }

nothing-left-out : (x : ℤ) → widened 0 (narrowed 0 x) ≡ x
nothing-left-out (pos n) = ap pos (omega arith)
nothing-left-out (negsuc n) = let same : suc (n / 1) * 1 ≡ suc n = omega arith in rw same refl

plain-may : (width : ℕ) (samples : List ℤ) → 0 < width → MayTell plain width samples
unfolding plain
plain-may width samples h = record { some = h; zeros = λ k d lt. nothing-left-out _; predictor = tt }

first-wide : (channels : Channels) (bits : ℕ) → 0 < bits → 0 < first_width channels bits
first-wide Mono bits h = h
first-wide Stereo bits h = h
first-wide LeftSide bits h = h
first-wide SideRight bits h = omega arith
first-wide MidSide bits h = h

second-wide : (channels : Channels) (bits : ℕ) → 0 < bits → 0 < second_width channels bits
second-wide Mono bits h = h
second-wide Stereo bits h = h
second-wide LeftSide bits h = omega arith
second-wide SideRight bits h = h
second-wide MidSide bits h = omega arith

sound-may : (head : FrameHead) (samples : List (List ℤ)) → 0 < head.bits → IsSound head samples → MayTellSound plain_frame head samples
unfolding plain_frame
sound-may head [] bits h = absurd h
sound-may head (samples ∷ []) bits h = (h.0, h.1, plain-may head.bits samples bits)
sound-may head (left ∷ right ∷ []) bits h = (
  h.0,
  h.1,
  h.2,
  plain-may (first_width head.channels head.bits) (each_pair (first_of head.channels) left right) (first-wide head.channels head.bits bits),
  plain-may (second_width head.channels head.bits) (each_pair (second_of head.channels) left right) (second-wide head.channels head.bits bits),
)
sound-may head (left ∷ right ∷ third ∷ more) bits h = absurd h

stream-bits : (stream : Stream) (rest : List Bool) → 4 ≤ stream.bits → stream.bits ≤ 32
    → sample_bits_of stream 0 rest ≡ Ok (record { value = stream.bits; rest = rest })
unfolding sample_bits_of
stream-bits stream rest some most =
    let low : nat_le 4 stream.bits ≡ true = grind arith in
    let high : nat_le stream.bits 32 ≡ true = grind arith in
    rw low (rw high refl)

stream-rate : (stream : Stream) (rest : List Bool) → coded_rate stream 0 rest ≡ Ok (record { value = stream.rate; rest = rest })
unfolding coded_rate
stream-rate stream rest = refl

head-may : (stream : Stream) (frame : Frame) → CanBeEncoded stream frame → MayTellHead stream plain_frame frame.head
unfolding plain_frame
head-may stream frame h =
    let rate : frame.head.rate ≡ stream.rate = h.rate in
    let bits : frame.head.bits ≡ stream.bits = h.bits in
    let none : frame.head.number / 64 ^ 6 ≡ 0 = div-eq_of_lt h.number in
    record {
      size = (h.some_samples, h.most_samples);
      rate = (omega arith, λ rest. rw rate (stream-rate stream rest));
      some_rate = rw rate h.some_rate;
      most_rate = rw rate h.most_rate;
      some_bits = rw bits h.some_bits;
      bits_code = omega arith;
      bits = λ rest. rw bits (stream-bits stream rest h.some_bits h.most_bits);
      bytes = omega arith;
      number = rw none (omega arith);
      short = h.short;
    }

pub some-choice : (stream : Stream) (frame : Frame) → CanBeEncoded stream frame → (choice : FrameChoice) × MayEncode stream choice frame
some-choice stream frame h =
    let bits : frame.head.bits ≡ stream.bits = h.bits in
    let some : 0 < frame.head.bits = rw bits (let e : 4 ≤ stream.bits = h.some_bits in omega arith) in
    (plain_frame, record { head = head-may stream frame h; sound = sound-may frame.head frame.samples some h.sound })
