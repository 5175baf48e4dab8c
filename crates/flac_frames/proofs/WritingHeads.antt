-- What is written of a frame's head is read back.
use Rattle.std.proofs.Common.{inl, inr, ◌≡◌, ℕ, zero, suc, ◌+◌, ◌-◌, ◌*◌, ◌/◌, ◌%◌, ◌^◌, ◌<◌, ◌≤◌, Bool, true, false, List, [], ◌++◌, refl, sym, ◌∙◌, ap, arith, Ok, append_assoc}
use Rattle.std.specs.Prelude.{nat_lt, nat_le, ◌||◌, ◌⊎◌}
use Rattle.std.proofs.lemmas.Nat.{mod_below}
use Rattle.std.proofs.Math.Nat.{pow-suc, div-div-eq-div-mul}
use Rattle.flac_frames.specs.Bits.{bits_of_number}
use Rattle.flac_frames.specs.CodedNumber.{six_bits, continued, number_from, coded_number}
use Rattle.flac_frames.specs.FrameHead.{MAX_RATE, sync, blocking_strategy, channels_of, reserved_bit, frame_number, block_size_of, coded_rate, rate_of, head_fields}
use Rattle.flac_frames.specs.FrameChoices.{SizeCode, TableSize, ByteSize, WordSize, RateCode, TableRate, Thousands, Ones, Tens, FrameChoice, size_code, size_bits, rate_code, rate_bits, channels_code, further_bits, number_bits, strategy_bit, head_bits}
use Rattle.flac_frames.specs.MayEncodeFrame.{MayTellSize, MayTellRate, lead_room, MayTellHead}
use Rattle.flac_frames.specs.declared.head.Stream.{Stream}
use Rattle.flac_frames.specs.declared.head.FrameHead.{FrameHead}
use Rattle.flac_frames.specs.declared.head.Channels.{Channels}
use Rattle.flac_frames.specs.declared.head.Channels.TheVariants.{Mono, Stereo, LeftSide, SideRight, MidSide}
use Rattle.flac_frames.proofs.WritingBits.{unsigned-bits}

six-back : (x : ℕ) (rest : List Bool) → x < 64 → six_bits (bits_of_number 8 (128 + x) ++ rest) ≡ Ok (record { value = x; rest = rest })
unfolding six_bits
six-back x rest h =
    let low : nat_le 128 (128 + x) ≡ true = grind arith in
    let high : nat_lt (128 + x) 192 ≡ true = grind arith in
    let same : 128 + x - 128 ≡ x = omega arith in
    rw (unsigned-bits 8 (128 + x) rest (omega arith)) (rw low (rw high (rw same refl)))

-- six bits more of a number
one_more_digit : (x n : ℕ) → x / 64 ^ suc n * 64 + x / 64 ^ n % 64 ≡ x / 64 ^ n
one_more_digit x n =
    let product : 64 ^ suc n ≡ 64 ^ n * 64 = pow-suc 64 n in
    let parts : x / 64 ^ n / 64 ≡ x / (64 ^ n * 64) = div-div-eq-div-mul x (64 ^ n) 64 in
    let whole : x / 64 ^ n / 64 * 64 + x / 64 ^ n % 64 ≡ x / 64 ^ n = omega arith in
    rw product (rw (sym parts) whole)

continued-back : (n x : ℕ) (rest : List Bool) → continued n (x / 64 ^ n) (further_bits n x ++ rest) ≡ Ok (record { value = x; rest = rest })
unfolding continued further_bits
continued-back zero x rest = let same : x / 64 ^ 0 ≡ x = omega arith in rw same refl
continued-back (suc n) x rest =
    let low : ℕ = x / 64 ^ n % 64 in
    rw (append_assoc (bits_of_number 8 (128 + low)) (further_bits n x) rest)
    (rw (six-back low (further_bits n x ++ rest) (mod_below (x / 64 ^ n) 64 (omega arith)))
    (rw (one_more_digit x n) (continued-back n x rest)))

number-alone : (x : ℕ) (rest : List Bool) → x / 64 ^ 0 < 128 → coded_number (number_bits 0 x ++ rest) ≡ Ok (record { value = x; rest = rest })
unfolding coded_number number_from further_bits
number-alone x rest room =
    let same : 0 + x / 64 ^ 0 ≡ x = omega arith in
    let below : nat_lt x 128 ≡ true = grind arith in
    rw (append_assoc (bits_of_number 8 (0 + x / 64 ^ 0)) [] rest) (rw same (rw (unsigned-bits 8 x rest (omega arith)) (rw below refl)))

lead-1 : (q : ℕ) (bits : List Bool) → q < 32 → number_from (192 + q) bits ≡ continued 1 q bits
unfolding number_from
lead-1 q bits h =
    let below_128 : nat_lt (192 + q) 128 ≡ false = grind arith in
    let below_192 : nat_lt (192 + q) 192 ≡ false = grind arith in
    let below_224 : nat_lt (192 + q) 224 ≡ true = grind arith in
    let same : 192 + q - 192 ≡ q = omega arith in
    rw below_128 (rw below_192 (rw below_224 (rw same refl)))

lead-2 : (q : ℕ) (bits : List Bool) → q < 16 → number_from (224 + q) bits ≡ continued 2 q bits
unfolding number_from
lead-2 q bits h =
    let below_128 : nat_lt (224 + q) 128 ≡ false = grind arith in
    let below_192 : nat_lt (224 + q) 192 ≡ false = grind arith in
    let below_224 : nat_lt (224 + q) 224 ≡ false = grind arith in
    let below_240 : nat_lt (224 + q) 240 ≡ true = grind arith in
    let same : 224 + q - 224 ≡ q = omega arith in
    rw below_128 (rw below_192 (rw below_224 (rw below_240 (rw same refl))))

lead-3 : (q : ℕ) (bits : List Bool) → q < 8 → number_from (240 + q) bits ≡ continued 3 q bits
unfolding number_from
lead-3 q bits h =
    let below_128 : nat_lt (240 + q) 128 ≡ false = grind arith in
    let below_192 : nat_lt (240 + q) 192 ≡ false = grind arith in
    let below_224 : nat_lt (240 + q) 224 ≡ false = grind arith in
    let below_240 : nat_lt (240 + q) 240 ≡ false = grind arith in
    let below_248 : nat_lt (240 + q) 248 ≡ true = grind arith in
    let same : 240 + q - 240 ≡ q = omega arith in
    rw below_128 (rw below_192 (rw below_224 (rw below_240 (rw below_248 (rw same refl)))))

lead-4 : (q : ℕ) (bits : List Bool) → q < 4 → number_from (248 + q) bits ≡ continued 4 q bits
unfolding number_from
lead-4 q bits h =
    let below_128 : nat_lt (248 + q) 128 ≡ false = grind arith in
    let below_192 : nat_lt (248 + q) 192 ≡ false = grind arith in
    let below_224 : nat_lt (248 + q) 224 ≡ false = grind arith in
    let below_240 : nat_lt (248 + q) 240 ≡ false = grind arith in
    let below_248 : nat_lt (248 + q) 248 ≡ false = grind arith in
    let below_252 : nat_lt (248 + q) 252 ≡ true = grind arith in
    let same : 248 + q - 248 ≡ q = omega arith in
    rw below_128 (rw below_192 (rw below_224 (rw below_240 (rw below_248 (rw below_252 (rw same refl))))))

lead-5 : (q : ℕ) (bits : List Bool) → q < 2 → number_from (252 + q) bits ≡ continued 5 q bits
unfolding number_from
lead-5 q bits h =
    let below_128 : nat_lt (252 + q) 128 ≡ false = grind arith in
    let below_192 : nat_lt (252 + q) 192 ≡ false = grind arith in
    let below_224 : nat_lt (252 + q) 224 ≡ false = grind arith in
    let below_240 : nat_lt (252 + q) 240 ≡ false = grind arith in
    let below_248 : nat_lt (252 + q) 248 ≡ false = grind arith in
    let below_252 : nat_lt (252 + q) 252 ≡ false = grind arith in
    let below_254 : nat_lt (252 + q) 254 ≡ true = grind arith in
    let same : 252 + q - 252 ≡ q = omega arith in
    rw below_128 (rw below_192 (rw below_224 (rw below_240 (rw below_248 (rw below_252 (rw below_254 (rw same refl)))))))

lead-6 : (q : ℕ) (bits : List Bool) → q < 1 → number_from (254 + q) bits ≡ continued 6 q bits
unfolding number_from
lead-6 q bits h =
    let below_128 : nat_lt (254 + q) 128 ≡ false = grind arith in
    let below_192 : nat_lt (254 + q) 192 ≡ false = grind arith in
    let below_224 : nat_lt (254 + q) 224 ≡ false = grind arith in
    let below_240 : nat_lt (254 + q) 240 ≡ false = grind arith in
    let below_248 : nat_lt (254 + q) 248 ≡ false = grind arith in
    let below_252 : nat_lt (254 + q) 252 ≡ false = grind arith in
    let below_254 : nat_lt (254 + q) 254 ≡ false = grind arith in
    let below_255 : nat_lt (254 + q) 255 ≡ true = grind arith in
    let none : q ≡ 0 = omega arith in
    rw below_128 (rw below_192 (rw below_224 (rw below_240 (rw below_248 (rw below_252 (rw below_254 (rw below_255 (rw none refl))))))))

number-back : (further x : ℕ) (rest : List Bool) → further ≤ 6 → x / 64 ^ further < lead_room further
    → coded_number (number_bits further x ++ rest) ≡ Ok (record { value = x; rest = rest })
unfolding coded_number
number-back zero x rest h room = number-alone x rest room
number-back (suc zero) x rest h room =
    let read : continued 1 (x / 64 ^ 1) (further_bits 1 x ++ rest) ≡ Ok (record { value = x; rest = rest }) = continued-back 1 x rest in
    rw (append_assoc (bits_of_number 8 (192 + x / 64 ^ 1)) (further_bits 1 x) rest)
    (rw (unsigned-bits 8 (192 + x / 64 ^ 1) (further_bits 1 x ++ rest) (omega arith))
    (rw (lead-1 (x / 64 ^ 1) (further_bits 1 x ++ rest) room) read))
number-back (suc (suc zero)) x rest h room =
    let read : continued 2 (x / 64 ^ 2) (further_bits 2 x ++ rest) ≡ Ok (record { value = x; rest = rest }) = continued-back 2 x rest in
    rw (append_assoc (bits_of_number 8 (224 + x / 64 ^ 2)) (further_bits 2 x) rest)
    (rw (unsigned-bits 8 (224 + x / 64 ^ 2) (further_bits 2 x ++ rest) (omega arith))
    (rw (lead-2 (x / 64 ^ 2) (further_bits 2 x ++ rest) room) read))
number-back (suc (suc (suc zero))) x rest h room =
    let read : continued 3 (x / 64 ^ 3) (further_bits 3 x ++ rest) ≡ Ok (record { value = x; rest = rest }) = continued-back 3 x rest in
    rw (append_assoc (bits_of_number 8 (240 + x / 64 ^ 3)) (further_bits 3 x) rest)
    (rw (unsigned-bits 8 (240 + x / 64 ^ 3) (further_bits 3 x ++ rest) (omega arith))
    (rw (lead-3 (x / 64 ^ 3) (further_bits 3 x ++ rest) room) read))
number-back (suc (suc (suc (suc zero)))) x rest h room =
    let read : continued 4 (x / 64 ^ 4) (further_bits 4 x ++ rest) ≡ Ok (record { value = x; rest = rest }) = continued-back 4 x rest in
    rw (append_assoc (bits_of_number 8 (248 + x / 64 ^ 4)) (further_bits 4 x) rest)
    (rw (unsigned-bits 8 (248 + x / 64 ^ 4) (further_bits 4 x ++ rest) (omega arith))
    (rw (lead-4 (x / 64 ^ 4) (further_bits 4 x ++ rest) room) read))
number-back (suc (suc (suc (suc (suc zero))))) x rest h room =
    let read : continued 5 (x / 64 ^ 5) (further_bits 5 x ++ rest) ≡ Ok (record { value = x; rest = rest }) = continued-back 5 x rest in
    rw (append_assoc (bits_of_number 8 (252 + x / 64 ^ 5)) (further_bits 5 x) rest)
    (rw (unsigned-bits 8 (252 + x / 64 ^ 5) (further_bits 5 x ++ rest) (omega arith))
    (rw (lead-5 (x / 64 ^ 5) (further_bits 5 x ++ rest) room) read))
number-back (suc (suc (suc (suc (suc (suc zero)))))) x rest h room =
    let read : continued 6 (x / 64 ^ 6) (further_bits 6 x ++ rest) ≡ Ok (record { value = x; rest = rest }) = continued-back 6 x rest in
    rw (append_assoc (bits_of_number 8 (254 + x / 64 ^ 6)) (further_bits 6 x) rest)
    (rw (unsigned-bits 8 (254 + x / 64 ^ 6) (further_bits 6 x ++ rest) (omega arith))
    (rw (lead-6 (x / 64 ^ 6) (further_bits 6 x ++ rest) room) read))
number-back (suc (suc (suc (suc (suc (suc (suc n))))))) x rest h room = absurd (omega arith)

sync-back : (rest : List Bool) → sync (bits_of_number 15 0x7ffc ++ rest) ≡ Ok (record { value = 0x7ffc; rest = rest })
unfolding sync
sync-back rest = rw (unsigned-bits 15 0x7ffc rest (omega arith)) refl

strategy-back : (is_variable : Bool) (rest : List Bool)
    → blocking_strategy (bits_of_number 1 (strategy_bit is_variable) ++ rest) ≡ Ok (record { value = is_variable; rest = rest })
unfolding blocking_strategy
strategy-back true rest = rw (unsigned-bits 1 1 rest (omega arith)) refl
strategy-back false rest = rw (unsigned-bits 1 0 rest (omega arith)) refl

channels-below : (channels : Channels) → channels_code channels < 16
channels-below Mono = omega arith
channels-below Stereo = omega arith
channels-below LeftSide = omega arith
channels-below SideRight = omega arith
channels-below MidSide = omega arith

channels-back : (channels : Channels) (rest : List Bool) → channels_of (channels_code channels) rest ≡ Ok (record { value = channels; rest = rest })
unfolding channels_of
channels-back Mono rest = refl
channels-back Stereo rest = refl
channels-back LeftSide rest = refl
channels-back SideRight rest = refl
channels-back MidSide rest = refl

reserved-back : (rest : List Bool) → reserved_bit (bits_of_number 1 0 ++ rest) ≡ Ok (record { value = 0; rest = rest })
unfolding reserved_bit
reserved-back rest = rw (unsigned-bits 1 0 rest (omega arith)) refl

size_code-below : (code : SizeCode) (size : ℕ) → MayTellSize code size → size_code code < 16
size_code-below (TableSize code) size h = h.0
size_code-below ByteSize size h = omega arith
size_code-below WordSize size h = omega arith

size-back : (code : SizeCode) (size : ℕ) (rest : List Bool) → MayTellSize code size
    → block_size_of (size_code code) (size_bits code size ++ rest) ≡ Ok (record { value = size; rest = rest })
unfolding block_size_of
size-back (TableSize code) size rest h = h.1 rest
size-back ByteSize size rest h =
    let same : size - 1 + 1 ≡ size = omega arith in
    rw (unsigned-bits 8 (size - 1) rest (omega arith)) (rw same refl)
size-back WordSize size rest h =
    let same : size - 1 + 1 ≡ size = omega arith in
    let known : nat_lt (size - 1) 65535 ≡ true = grind arith in
    rw (unsigned-bits 16 (size - 1) rest (omega arith)) (rw known (rw same refl))

rate_code-below : (stream : Stream) (code : RateCode) (rate : ℕ) → MayTellRate stream code rate → rate_code code < 16
rate_code-below stream (TableRate code) rate h = h.0
rate_code-below stream Thousands rate h = omega arith
rate_code-below stream Ones rate h = omega arith
rate_code-below stream Tens rate h = omega arith

coded_rate-back : (stream : Stream) (code : RateCode) (rate : ℕ) (rest : List Bool) → MayTellRate stream code rate
    → coded_rate stream (rate_code code) (rate_bits code rate ++ rest) ≡ Ok (record { value = rate; rest = rest })
unfolding coded_rate
coded_rate-back stream (TableRate code) rate rest h = h.1 rest
coded_rate-back stream Thousands rate rest h =
    let none : rate % 1000 ≡ 0 = h.0 in
    let same : 1000 * (rate / 1000) ≡ rate = omega arith in
    rw (unsigned-bits 8 (rate / 1000) rest (omega (arith, h.1))) (rw same refl)
coded_rate-back stream Ones rate rest h = unsigned-bits 16 rate rest (omega arith)
coded_rate-back stream Tens rate rest h =
    let none : rate % 10 ≡ 0 = h.0 in
    let same : 10 * (rate / 10) ≡ rate = omega arith in
    rw (unsigned-bits 16 (rate / 10) rest (omega (arith, h.1))) (rw same refl)

rate-back : (stream : Stream) (code : RateCode) (rate : ℕ) (rest : List Bool) → MayTellRate stream code rate → 1 ≤ rate → rate ≤ MAX_RATE
    → rate_of stream (rate_code code) (rate_bits code rate ++ rest) ≡ Ok (record { value = rate; rest = rest })
unfolding rate_of
rate-back stream code rate rest h some most =
    let low : nat_le 1 rate ≡ true = grind arith in
    let high : nat_le rate MAX_RATE ≡ true = grind arith in
    rw (coded_rate-back stream code rate rest h) (rw low (rw high refl))

short_enough : (is_variable : Bool) (number : ℕ) → (is_variable ≡ true) ⊎ (number < 2 ^ 31) → (is_variable || nat_lt number (2 ^ 31)) ≡ true
short_enough true number h = refl
short_enough false number (inl e) = absurd (grind arith)
short_enough false number (inr lt) = grind arith

frame_number-back : (is_variable : Bool) (further number : ℕ) (rest : List Bool) → further ≤ 6 → number / 64 ^ further < lead_room further
    → (is_variable ≡ true) ⊎ (number < 2 ^ 31)
    → frame_number is_variable (number_bits further number ++ rest) ≡ Ok (record { value = number; rest = rest })
unfolding frame_number
frame_number-back is_variable further number rest h room short =
    rw (number-back further number rest h room) (rw (short_enough is_variable number short) refl)

pub head-back : (stream : Stream) (choice : FrameChoice) (head : FrameHead) (rest : List Bool) → MayTellHead stream choice head
    → head_fields stream (head_bits choice head ++ rest) ≡ Ok (record { value = head; rest = rest })
unfolding head_fields
head-back stream choice head rest h =
    let a : List Bool = bits_of_number 15 0x7ffc in
    let b : List Bool = bits_of_number 1 (strategy_bit head.is_variable) in
    let c : List Bool = bits_of_number 4 (size_code choice.size) in
    let d : List Bool = bits_of_number 4 (rate_code choice.rate) in
    let e : List Bool = bits_of_number 4 (channels_code head.channels) in
    let f : List Bool = bits_of_number 3 choice.bits in
    let g : List Bool = bits_of_number 1 0 in
    let i : List Bool = number_bits choice.further head.number in
    let j : List Bool = size_bits choice.size head.block_size in
    let k : List Bool = rate_bits choice.rate head.rate in
    let k_on : List Bool = k ++ rest in
    let j_on : List Bool = j ++ k_on in
    let i_on : List Bool = i ++ j_on in
    let g_on : List Bool = g ++ i_on in
    let f_on : List Bool = f ++ g_on in
    let e_on : List Bool = e ++ f_on in
    let d_on : List Bool = d ++ e_on in
    let c_on : List Bool = c ++ d_on in
    let b_on : List Bool = b ++ c_on in
    let joined : head_bits choice head ++ rest ≡ a ++ b_on =
    append_assoc a (b ++ (c ++ (d ++ (e ++ (f ++ (g ++ (i ++ (j ++ k)))))))) rest
    ∙ ap (λ t. a ++ t) (append_assoc b (c ++ (d ++ (e ++ (f ++ (g ++ (i ++ (j ++ k))))))) rest
    ∙ ap (λ t. b ++ t) (append_assoc c (d ++ (e ++ (f ++ (g ++ (i ++ (j ++ k)))))) rest
    ∙ ap (λ t. c ++ t) (append_assoc d (e ++ (f ++ (g ++ (i ++ (j ++ k))))) rest
    ∙ ap (λ t. d ++ t) (append_assoc e (f ++ (g ++ (i ++ (j ++ k)))) rest
    ∙ ap (λ t. e ++ t) (append_assoc f (g ++ (i ++ (j ++ k))) rest
    ∙ ap (λ t. f ++ t) (append_assoc g (i ++ (j ++ k)) rest
    ∙ ap (λ t. g ++ t) (append_assoc i (j ++ k) rest
    ∙ ap (λ t. i ++ t) (append_assoc j k rest)))))))) in
    rw joined
    (rw (sync-back b_on)
    (rw (strategy-back head.is_variable c_on)
    (rw (unsigned-bits 4 (size_code choice.size) d_on (size_code-below choice.size head.block_size h.size))
    (rw (unsigned-bits 4 (rate_code choice.rate) e_on (rate_code-below stream choice.rate head.rate h.rate))
    (rw (unsigned-bits 4 (channels_code head.channels) f_on (channels-below head.channels))
    (rw (channels-back head.channels f_on)
    (rw (unsigned-bits 3 choice.bits g_on h.bits_code)
    (rw (h.bits g_on)
    (rw (reserved-back i_on)
    (rw (frame_number-back head.is_variable choice.further head.number j_on h.bytes h.number h.short)
    (rw (size-back choice.size head.block_size k_on h.size)
    (rw (rate-back stream choice.rate head.rate rest h.rate h.some_rate h.most_rate) refl))))))))))))
