-- The bits in front of those that are left, as bytes.
use Rattle.std.proofs.Common.{◌≡◌, ℕ, zero, suc, ◌+◌, ◌-◌, ◌*◌, ◌/◌, ◌%◌, List, [], ◌∷◌, ◌++◌, length, take, refl, sym, ap, ◌∙◌, arith, zero-add, Bool, true, false, cond, eqb, Ok, Err}
use Rattle.flac_frames.specs.Bits.{bits_of, bits_of_number}
use Rattle.flac_frames.specs.Crc.{crc_8}
use Rattle.flac_frames.specs.FrameHead.{head_fields}
use Rattle.flac_frames.specs.Reading.{only_if, unsigned}
use Rattle.flac_frames.specs.declared.head.Stream.{Stream}
use Rattle.flac_frames.specs.declared.head.FrameHead.{FrameHead}
use Rattle.flac_frames.specs.declared.refusal.FrameError.TheVariants.{HeadCrc}
use Rattle.flac_frames.specs.Frame.{consumed, frame_head, guarded}
use Rattle.flac_frames.proofs.BitLists.{length-bits_of, length-bits_of_number}

take_none : (n : ℕ) → take {A = Bool} n [] ≡ []
take_none zero = refl
take_none (suc n) = refl

take_front : (xs ys : List Bool) (n : ℕ) → take (length xs + n) (xs ++ ys) ≡ xs ++ take n ys
take_front [] ys n = rw zero-add refl
take_front (x ∷ xs) ys n =
    let e : suc (length xs) + n ≡ suc (length xs + n) = omega arith in
    rw e (ap (λ l. x ∷ l) (take_front xs ys n))

take_bits : (n : ℕ) (bytes : List ℕ) → take (8 * n) (bits_of bytes) ≡ bits_of (take n bytes)
unfolding bits_of
take_bits zero bytes = refl
take_bits (suc n) [] = take_none (8 * suc n)
take_bits (suc n) (b ∷ bytes) =
    let e : 8 * suc n ≡ length (bits_of_number 8 b) + 8 * n = omega (arith, length-bits_of_number 8 b) in
    rw e (take_front (bits_of_number 8 b) (bits_of bytes) (8 * n) ∙ ap (λ l. bits_of_number 8 b ++ l) (take_bits n bytes))

pub consumed_bytes : (bytes : List ℕ) (rest : List Bool) → length rest % 8 ≡ 0 → consumed (bits_of bytes) rest ≡ bits_of (take (length bytes - length rest / 8) bytes)
unfolding consumed
consumed_bytes bytes rest h =
    let e : length (bits_of bytes) - length rest ≡ 8 * (length bytes - length rest / 8) = omega (arith, length-bits_of bytes) in
    rw e (take_bits (length bytes - length rest / 8) bytes)

by_test : (b : Bool) (head : FrameHead) (rest : List Bool) → only_if b HeadCrc head rest ≡ cond b (Ok (record { value = head; rest = rest })) (Err HeadCrc)
by_test true head rest = refl
by_test false head rest = refl

-- a head, by its fields and its check
pub head_checked : (stream : Stream) (bytes : List ℕ) (bits r1 r2 : List Bool) (head : FrameHead) (code check n : ℕ)
    → bits ≡ bits_of bytes → head_fields stream bits ≡ Ok (record { value = head; rest = r1 }) → length r1 % 8 ≡ 0
    → n ≡ length bytes - length r1 / 8 → check ≡ crc_8 (bits_of (take n bytes))
    → unsigned 8 r1 ≡ Ok (record { value = code; rest = r2 })
    → frame_head stream bits ≡ cond (eqb code check) (Ok (record { value = head; rest = r2 })) (Err HeadCrc)
unfolding frame_head guarded
head_checked stream bytes bits r1 r2 head code check n same fields whole len sum read =
    let e : consumed (bits_of bytes) r1 ≡ bits_of (take (length bytes - length r1 / 8) bytes) = consumed_bytes bytes r1 whole in
    let s : crc_8 (consumed bits r1) ≡ check = rw (same, e) (ap (λ k. crc_8 (bits_of (take k bytes))) (sym len) ∙ sym sum) in
    rw fields (rw read (rw s (by_test (eqb code check) head r2)))

pub chosen : {A : Type 0} (b : Bool) (x y : A) → b ≡ true → cond b x y ≡ x
chosen b x y h = rw h refl

pub unchosen : {A : Type 0} (b : Bool) (x y : A) → b ≡ false → cond b x y ≡ y
unchosen b x y h = rw h refl
