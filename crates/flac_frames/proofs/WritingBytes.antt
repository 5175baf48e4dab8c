-- Bytes give the bits that were packed into them, and so a frame is read back from its bytes.
use Rattle.std.proofs.Common.{◌≡◌, ℕ, suc, ◌+◌, ◌-◌, ◌*◌, ◌/◌, ◌%◌, ◌^◌, ◌<◌, Bool, true, false, List, [], ◌∷◌, ◌++◌, length, refl, sym, ◌∙◌, ap, arith, length-append, Ok, append_assoc}
use Rattle.std.proofs.Math.Nat.{pow-succ', mul_comm, mul_assoc, add-mul}
use Rattle.std.proofs.lemmas.Nat.{div-mul-add}
use Rattle.flac_frames.specs.Bits.{bits_of_number, bits_of, number_of}
use Rattle.flac_frames.specs.Frame.{Frame, frame, frame_of}
use Rattle.flac_frames.specs.FrameChoices.{FrameChoice, head_bits, sound_bits, checked, padded, frame_bits, bytes_of_bits, frame_bytes}
use Rattle.flac_frames.specs.Crc.{crc_8, crc_16}
use Rattle.flac_frames.specs.MayEncodeFrame.{MayEncode}
use Rattle.flac_frames.specs.declared.head.Stream.{Stream}
use Rattle.flac_frames.proofs.WritingBits.{length-bits_of_number}
use Rattle.flac_frames.proofs.WritingFrames.{frame-back}

number_of-below : (bits : List Bool) → number_of bits < 2 ^ length bits
unfolding number_of
number_of-below [] = omega arith
number_of-below (true ∷ bits) =
    let below : number_of bits < 2 ^ length bits = number_of-below bits in
    let double : 2 ^ suc (length bits) ≡ 2 * 2 ^ length bits = pow-succ' 2 (length bits) in omega arith
number_of-below (false ∷ bits) =
    let below : number_of bits < 2 ^ length bits = number_of-below bits in
    let double : 2 ^ suc (length bits) ≡ 2 * 2 ^ length bits = pow-succ' 2 (length bits) in omega arith

regrouped : (k d power rest : ℕ) → k * (2 * power) + (d * power + rest) ≡ (2 * k + d) * power + rest
regrouped k d power rest =
    let whole : (2 * k + d) * power ≡ 2 * k * power + d * power = add-mul (2 * k) d power in
    let left : k * (2 * power) ≡ 2 * k * power = sym (mul_assoc k 2 power) ∙ ap (λ t. t * power) (mul_comm k 2) in
    omega arith

-- the first of so many bits of a number that ends in these, and the others
first-digit : (k d : ℕ) (bits : List Bool) → d < 2 → ((2 * k + d) * 2 ^ length bits + number_of bits) / 2 ^ length bits % 2 ≡ d
first-digit k d bits h =
    let quotient : ((2 * k + d) * 2 ^ length bits + number_of bits) / 2 ^ length bits ≡ 2 * k + d =
    div-mul-add (2 * k + d) (2 ^ length bits) (number_of bits) (number_of-below bits) in
    rw quotient (omega arith)

-- the lowest bits of a number that ends in these
lowest-bits : (k : ℕ) (bits : List Bool) → bits_of_number (length bits) (k * 2 ^ length bits + number_of bits) ≡ bits
unfolding bits_of_number number_of
lowest-bits k [] = refl
lowest-bits k (true ∷ bits) =
    let same : k * 2 ^ suc (length bits) + (2 ^ length bits + number_of bits) ≡ (2 * k + 1) * 2 ^ length bits + number_of bits =
    rw (pow-succ' 2 (length bits)) (let e : k * (2 * 2 ^ length bits) + (1 * 2 ^ length bits + number_of bits) ≡ (2 * k + 1) * 2 ^ length bits + number_of bits
    = regrouped k 1 (2 ^ length bits) (number_of bits) in omega arith) in
    rw same (rw (first-digit k 1 bits (omega arith)) (ap (λ t. true ∷ t) (lowest-bits (2 * k + 1) bits)))
lowest-bits k (false ∷ bits) =
    let same : k * 2 ^ suc (length bits) + (0 + number_of bits) ≡ (2 * k + 0) * 2 ^ length bits + number_of bits =
    rw (pow-succ' 2 (length bits)) (let e : k * (2 * 2 ^ length bits) + (0 * 2 ^ length bits + number_of bits) ≡ (2 * k + 0) * 2 ^ length bits + number_of bits
    = regrouped k 0 (2 ^ length bits) (number_of bits) in omega arith) in
    rw same (rw (first-digit k 0 bits (omega arith)) (ap (λ t. false ∷ t) (lowest-bits (2 * k + 0) bits)))

length-bits_of : (bytes : List ℕ) → length (bits_of bytes) ≡ 8 * length bytes
unfolding bits_of
length-bits_of [] = refl
length-bits_of (byte ∷ bytes) =
    let more : length (bits_of bytes) ≡ 8 * length bytes = length-bits_of bytes in
    rw (length-append (bits_of_number 8 byte) (bits_of bytes)) (rw (length-bits_of_number 8 byte) (omega arith))

bits_of-append : (xs ys : List ℕ) → bits_of (xs ++ ys) ≡ bits_of xs ++ bits_of ys
unfolding bits_of
bits_of-append [] ys = refl
bits_of-append (x ∷ xs) ys = rw (append_assoc (bits_of_number 8 x) (bits_of xs) (bits_of ys)) (ap (λ t. bits_of_number 8 x ++ t) (bits_of-append xs ys))

byte-back : (bits : List Bool) → length bits ≡ 8 → bits_of_number 8 (number_of bits) ≡ bits
byte-back bits h =
    let low : bits_of_number (length bits) (0 * 2 ^ length bits + number_of bits) ≡ bits = lowest-bits 0 bits in
    let plain : 0 * 2 ^ length bits + number_of bits ≡ number_of bits = omega arith in
    rw h at (rw plain at low)

bytes-back : (bits : List Bool) → length bits % 8 ≡ 0 → bits_of (bytes_of_bits bits) ≡ bits
unfolding bits_of bytes_of_bits
bytes-back [] h = refl
bytes-back (a ∷ []) h = absurd (omega arith)
bytes-back (a ∷ b ∷ []) h = absurd (omega arith)
bytes-back (a ∷ b ∷ c ∷ []) h = absurd (omega arith)
bytes-back (a ∷ b ∷ c ∷ d ∷ []) h = absurd (omega arith)
bytes-back (a ∷ b ∷ c ∷ d ∷ e ∷ []) h = absurd (omega arith)
bytes-back (a ∷ b ∷ c ∷ d ∷ e ∷ f ∷ []) h = absurd (omega arith)
bytes-back (a ∷ b ∷ c ∷ d ∷ e ∷ f ∷ g ∷ []) h = absurd (omega arith)
bytes-back (a ∷ b ∷ c ∷ d ∷ e ∷ f ∷ g ∷ i ∷ bits) h =
    let more : bits_of (bytes_of_bits bits) ≡ bits = bytes-back bits (omega arith) in
    let one : bits_of_number 8 (number_of (a ∷ b ∷ c ∷ d ∷ e ∷ f ∷ g ∷ i ∷ [])) ≡ a ∷ b ∷ c ∷ d ∷ e ∷ f ∷ g ∷ i ∷ [] =
    byte-back (a ∷ b ∷ c ∷ d ∷ e ∷ f ∷ g ∷ i ∷ []) refl in
    rw one (rw more refl)

-- a frame is a whole number of bytes
whole-bytes : (choice : FrameChoice) (whole : Frame) → length (frame_bits choice whole) % 8 ≡ 0
whole-bytes choice whole =
    let bits : List Bool = checked 8 crc_8 (head_bits choice whole.head) ++ sound_bits choice whole.head whole.samples in
    let count : ℕ = (8 - length bits % 8) % 8 in
    rw (length-append (padded bits) (bits_of_number 16 (crc_16 (padded bits))))
    (rw (length-bits_of_number 16 (crc_16 (padded bits)))
    (rw (length-append bits (bits_of_number count 0))
    (rw (length-bits_of_number count 0) (omega arith))))

-- What was encoded is what is decoded, and just the frame's bytes are taken.
pub encoded-decodes : (stream : Stream) (choice : FrameChoice) (whole : Frame) (more : List ℕ) → MayEncode stream choice whole
    → frame_of stream (frame_bytes choice whole ++ more) ≡ Ok (record { frame = whole; used = length (frame_bytes choice whole) })
unfolding frame_of
encoded-decodes stream choice whole more h =
    let bytes : List ℕ = frame_bytes choice whole in
    let packed : bits_of bytes ≡ frame_bits choice whole = bytes-back (frame_bits choice whole) (whole-bytes choice whole) in
    let bits : bits_of (bytes ++ more) ≡ frame_bits choice whole ++ bits_of more = bits_of-append bytes more ∙ ap (λ t. t ++ bits_of more) packed in
    let size : length (bits_of more) ≡ 8 * length more = length-bits_of more in
    let read : frame stream (frame_bits choice whole ++ bits_of more) ≡ Ok (record { value = whole; rest = bits_of more }) =
    frame-back stream choice whole (bits_of more) (omega arith) h in
    let used : length (bytes ++ more) - length (bits_of more) / 8 ≡ length bytes = rw (length-append bytes more) (rw size (omega arith)) in
    rw bits (rw read (rw used refl))
