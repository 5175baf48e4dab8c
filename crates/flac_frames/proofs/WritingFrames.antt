-- What was encoded is what is decoded: a frame is read back from what is written of it.
use Rattle.std.proofs.Common.{◌≡◌, ℕ, ◌+◌, ◌-◌, ◌*◌, ◌/◌, ◌%◌, ◌^◌, ◌<◌, ◌≤◌, ◌==◌, Bool, true, false, List, [], ◌∷◌, ◌++◌, length, refl, sym, ◌∙◌, arith, if◌then◌else◌, length-append, Ok, ℤ, append_assoc}
use Rattle.std.specs.Int.Bits.{bit_xor}
use Rattle.std.proofs.lemmas.Nat.{pow_pos, mod_below, xor_lt}
use Rattle.std.proofs.Math.Seq.{take-append_seam}
use Rattle.flac_frames.specs.Bits.{bits_of_number}
use Rattle.flac_frames.specs.Reading.{Reader}
use Rattle.flac_frames.specs.Crc.{differ, divided, remainder_after, crc_8, crc_16}
use Rattle.flac_frames.specs.FrameHead.{head_fields}
use Rattle.flac_frames.specs.Decorrelation.{first_width, second_width, each_pair}
use Rattle.flac_frames.specs.Subframe.{subframe}
use Rattle.flac_frames.specs.Frame.{consumed, guarded, frame_head, two_channels, one_channel, channel_samples, padding, Frame, frame_fields, frame}
use Rattle.flac_frames.specs.Choices.{subframe_bits}
use Rattle.flac_frames.specs.FrameChoices.{FrameChoice, head_bits, first_of, second_of, sound_bits, checked, padded, frame_bits}
use Rattle.flac_frames.specs.MayEncode.{MayTell}
use Rattle.flac_frames.specs.MayEncodeFrame.{AreSamples, MayTellSound, MayEncode}
use Rattle.flac_frames.specs.declared.head.Stream.{Stream}
use Rattle.flac_frames.specs.declared.head.FrameHead.{FrameHead}
use Rattle.flac_frames.specs.declared.refusal.FrameError.{FrameError}
use Rattle.flac_frames.specs.declared.refusal.FrameError.TheVariants.{HeadCrc, FrameCrc}
use Rattle.flac_frames.proofs.WritingBits.{unsigned-bits, length-bits_of_number}
use Rattle.flac_frames.proofs.WritingSubframes.{subframe-back}
use Rattle.flac_frames.proofs.WritingHeads.{head-back}
use Rattle.flac_frames.proofs.WritingStereo.{firsts-fit, seconds-fit, length-each_pair, stereo-back}

chosen : (is_subtracted : Bool) (width moved polynomial : ℕ) → moved < 2 ^ width → polynomial < 2 ^ width
    → (if is_subtracted then bit_xor moved polynomial else moved) < 2 ^ width
chosen true width moved polynomial a b = xor_lt width moved polynomial a b
chosen false width moved polynomial a b = a

divided-below : (width polynomial remainder : ℕ) (bit : Bool) → polynomial < 2 ^ width → divided width polynomial remainder bit < 2 ^ width
unfolding divided
divided-below width polynomial remainder bit h =
    chosen (differ (remainder / 2 ^ (width - 1) % 2 == 1) bit) width (remainder * 2 % 2 ^ width) polynomial
    (mod_below (remainder * 2) (2 ^ width) (pow_pos width)) h

remainder-below : (width polynomial remainder : ℕ) (bits : List Bool) → polynomial < 2 ^ width → remainder < 2 ^ width
    → remainder_after width polynomial remainder bits < 2 ^ width
unfolding remainder_after
remainder-below width polynomial remainder [] p h = h
remainder-below width polynomial remainder (bit ∷ bits) p h =
    remainder-below width polynomial (divided width polynomial remainder bit) bits p (divided-below width polynomial remainder bit p)

crc_8-below : (bits : List Bool) → crc_8 bits < 2 ^ 8
unfolding crc_8
crc_8-below bits = remainder-below 8 0x07 0 bits (omega arith) (omega arith)

crc_16-below : (bits : List Bool) → crc_16 bits < 2 ^ 16
unfolding crc_16
crc_16-below bits = remainder-below 16 0x8005 0 bits (omega arith) (omega arith)

consumed-front : (bits rest : List Bool) → consumed (bits ++ rest) rest ≡ bits
unfolding consumed
consumed-front bits rest =
    let count : length (bits ++ rest) - length rest ≡ length bits = grind (arith, length-append) in
    rw count (take-append_seam bits rest)

-- what is read of some bits, and behind them their check
guarded-back : {A : Type 0} → (width : ℕ) (check : List Bool → ℕ) (error : FrameError) (reader : Reader A) (bits : List Bool) (value : A) (rest : List Bool)
    → check bits < 2 ^ width
    → reader (bits ++ (bits_of_number width (check bits) ++ rest)) ≡ Ok (record { value = value; rest = bits_of_number width (check bits) ++ rest })
    → guarded width check error reader (checked width check bits ++ rest) ≡ Ok (record { value = value; rest = rest })
unfolding guarded
guarded-back width check error reader bits value rest below read =
    let behind : List Bool = bits_of_number width (check bits) ++ rest in
    let same : (check bits == check bits) ≡ true = grind arith in
    rw (append_assoc bits (bits_of_number width (check bits)) rest)
    (rw read (rw (unsigned-bits width (check bits) rest below) (rw (consumed-front bits behind) (rw same refl))))

-- zeros up to a byte
padding-back : (count : ℕ) (rest : List Bool) → count < 8 → (count + length rest) % 8 ≡ count
    → padding (bits_of_number count 0 ++ rest) ≡ Ok (record { value = 0; rest = rest })
unfolding padding
padding-back count rest few h =
    let size : length (bits_of_number count 0 ++ rest) % 8 ≡ count =
    rw (length-append (bits_of_number count 0) rest) (rw (length-bits_of_number count 0) h) in
    rw size (rw (unsigned-bits count 0 rest (pow_pos count)) refl)

mono-back : (choice : FrameChoice) (head : FrameHead) (samples : List ℤ) (rest : List Bool) → AreSamples head.bits head.block_size samples
    → MayTell choice.first head.bits samples
    → one_channel head (subframe_bits choice.first head.bits samples ++ rest) ≡ Ok (record { value = samples ∷ []; rest = rest })
unfolding one_channel
mono-back choice head samples rest are h =
    let count : length samples ≡ head.block_size = are.count in
    let read : subframe head.bits head.block_size (subframe_bits choice.first head.bits samples ++ rest) ≡ Ok (record { value = samples; rest = rest }) =
    rw count at (subframe-back choice.first head.bits samples rest are.fit h) in
    rw read refl

pair-back : (choice : FrameChoice) (head : FrameHead) (left right : List ℤ) (rest : List Bool) → 4 ≤ head.bits
    → AreSamples head.bits head.block_size left → AreSamples head.bits head.block_size right
    → MayTell choice.first (first_width head.channels head.bits) (each_pair (first_of head.channels) left right)
    → MayTell choice.second (second_width head.channels head.bits) (each_pair (second_of head.channels) left right)
    → two_channels head (sound_bits choice head (left ∷ right ∷ []) ++ rest) ≡ Ok (record { value = left ∷ right ∷ []; rest = rest })
unfolding two_channels
pair-back choice head left right rest bits l r first second =
    let firsts : List ℤ = each_pair (first_of head.channels) left right in
    let seconds : List ℤ = each_pair (second_of head.channels) left right in
    let a : List Bool = subframe_bits choice.first (first_width head.channels head.bits) firsts in
    let b : List Bool = subframe_bits choice.second (second_width head.channels head.bits) seconds in
    let some : 1 ≤ head.bits = omega arith in
    let left_count : length left ≡ head.block_size = l.count in
    let right_count : length right ≡ head.block_size = r.count in
    let equal : length left ≡ length right = left_count ∙ sym right_count in
    let first_count : length firsts ≡ head.block_size = length-each_pair (first_of head.channels) left right equal ∙ left_count in
    let second_count : length seconds ≡ head.block_size = length-each_pair (second_of head.channels) left right equal ∙ left_count in
    let first_read : subframe (first_width head.channels head.bits) head.block_size (a ++ (b ++ rest)) ≡ Ok (record { value = firsts; rest = b ++ rest }) =
    rw first_count at (subframe-back choice.first (first_width head.channels head.bits) firsts (b ++ rest) (firsts-fit head.channels head.bits left right some l.fit r.fit) first) in
    let second_read : subframe (second_width head.channels head.bits) head.block_size (b ++ rest) ≡ Ok (record { value = seconds; rest = rest }) =
    rw second_count at (subframe-back choice.second (second_width head.channels head.bits) seconds rest (seconds-fit head.channels head.bits left right some l.fit r.fit) second) in
    rw (append_assoc a b rest) (rw first_read (rw second_read
    (rw (stereo-back head.channels head.bits left right equal l.fit r.fit) refl)))

sound-back : (choice : FrameChoice) (head : FrameHead) (samples : List (List ℤ)) (rest : List Bool) → 4 ≤ head.bits → MayTellSound choice head samples
    → channel_samples head (sound_bits choice head samples ++ rest) ≡ Ok (record { value = samples; rest = rest })
unfolding channel_samples
sound-back choice head [] rest bits h = absurd h
sound-back choice head (samples ∷ []) rest bits h = rw h.0 (mono-back choice head samples rest h.1 h.2)
sound-back choice head (left ∷ right ∷ []) rest bits h = rw h.0 (pair-back choice head left right rest bits h.1 h.2 h.3 h.4)
sound-back choice head (left ∷ right ∷ third ∷ more) rest bits h = absurd h

fields-back : (stream : Stream) (choice : FrameChoice) (whole : Frame) (rest : List Bool) → length rest % 8 ≡ 0 → MayEncode stream choice whole
    → frame_fields stream (padded (checked 8 crc_8 (head_bits choice whole.head) ++ sound_bits choice whole.head whole.samples) ++ rest)
    ≡ Ok (record { value = whole; rest = rest })
unfolding frame_fields frame_head
fields-back stream choice whole rest even h =
    let bits : List Bool = head_bits choice whole.head in
    let head : List Bool = checked 8 crc_8 bits in
    let sound : List Bool = sound_bits choice whole.head whole.samples in
    let count : ℕ = (8 - length (head ++ sound) % 8) % 8 in
    let zeros : List Bool = bits_of_number count 0 in
    let few : count < 8 = mod_below (8 - length (head ++ sound) % 8) 8 (omega arith) in
    let head_read : guarded 8 crc_8 HeadCrc (head_fields stream) (head ++ (sound ++ (zeros ++ rest))) ≡ Ok (record { value = whole.head; rest = sound ++ (zeros ++ rest) }) =
    guarded-back 8 crc_8 HeadCrc (head_fields stream) bits whole.head (sound ++ (zeros ++ rest)) (crc_8-below bits)
    (head-back stream choice whole.head (bits_of_number 8 (crc_8 bits) ++ (sound ++ (zeros ++ rest))) h.head) in
    let sound_read : channel_samples whole.head (sound ++ (zeros ++ rest)) ≡ Ok (record { value = whole.samples; rest = zeros ++ rest }) =
    sound-back choice whole.head whole.samples (zeros ++ rest) h.head.some_bits h.sound in
    let padding_read : padding (zeros ++ rest) ≡ Ok (record { value = 0; rest = rest }) = padding-back count rest few (omega arith) in
    rw (append_assoc (head ++ sound) zeros rest) (rw (append_assoc head sound (zeros ++ rest))
    (rw head_read (rw sound_read (rw padding_read refl))))

pub frame-back : (stream : Stream) (choice : FrameChoice) (whole : Frame) (rest : List Bool) → length rest % 8 ≡ 0 → MayEncode stream choice whole
    → frame stream (frame_bits choice whole ++ rest) ≡ Ok (record { value = whole; rest = rest })
unfolding frame
frame-back stream choice whole rest even h =
    let bits : List Bool = padded (checked 8 crc_8 (head_bits choice whole.head) ++ sound_bits choice whole.head whole.samples) in
    let behind : List Bool = bits_of_number 16 (crc_16 bits) ++ rest in
    let size : length behind % 8 ≡ 0 =
    rw (length-append (bits_of_number 16 (crc_16 bits)) rest) (rw (length-bits_of_number 16 (crc_16 bits)) (omega arith)) in
    guarded-back 16 crc_16 FrameCrc (frame_fields stream) bits whole rest (crc_16-below bits) (fields-back stream choice whole behind size h)
