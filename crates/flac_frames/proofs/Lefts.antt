-- How many bits a reader has left.
use Rattle.std.proofs.Common.{◌≡◌, ℕ, ◌+◌, ◌*◌, ◌<◌, [], List, length, length-append, arith, ap, ◌∙◌, ◌∷◌, sym, refl, Result, Ok, Err, inl, inr}
use Rattle.flac_frames.specs.Bits.{bits_of, bits_of_number}
use Rattle.flac_frames.specs.Left.{left}
use Rattle.flac_frames.specs.declared.bits.BitReader.{BitReader}
use Rattle.flac_frames.specs.Reading.{Read, unary}
use Rattle.flac_frames.specs.declared.refusal.FrameError.{FrameError}
use Rattle.flac_frames.specs.declared.refusal.FrameError.TheVariants.{Ended}
use Rattle.std.proofs.lemmas.Bool.{cases_lt}
use Rattle.flac_frames.proofs.BitLists.{length-bits_of_number, length-bits_of, more_zeros, zeros_unary}

pub length-left : (r : BitReader) → length (left r) ≡ r.count + 8 * length r.rest.now
unfolding left
length-left r = omega (arith, length-append (bits_of_number r.count r.word) (bits_of r.rest.now), length-bits_of_number r.count r.word, length-bits_of r.rest.now)

pub few_left : (r : BitReader) (n : ℕ) → r.rest.now ≡ [] → r.count < n → length (left r) < n
few_left r n none h = omega (arith, length-left r, ap length none)

zeros_left : (r : BitReader) → r.word ≡ 0 → unary (left r) ≡ more_zeros r.count (unary (bits_of r.rest.now))
unfolding left
zeros_left r h = rw h (zeros_unary r.count (bits_of r.rest.now))

none_ended : (bytes : List ℕ) → length bytes ≡ 0 → unary (bits_of bytes) ≡ Err Ended
unfolding unary bits_of
none_ended [] h = refl
none_ended (b ∷ bytes) h = absurd (omega arith)

pub ended_left : (r : BitReader) (z : ℕ) → r.word ≡ 0 → length r.rest.now ≡ 0 → more_zeros z (unary (left r)) ≡ Err Ended
ended_left r z h none = rw (zeros_left r h) (rw (none_ended r.rest.now none) refl)

more_zeros-add : (z k : ℕ) (x : Result (Read ℕ) FrameError) → more_zeros (z + k) x ≡ more_zeros z (more_zeros k x)
more_zeros-add z k (Ok read) = let e : z + k + read.value ≡ z + (k + read.value) = omega arith in rw e refl
more_zeros-add z k (Err e) = refl

pub moved_zeros : (r new : BitReader) (z k : ℕ) → r.word ≡ 0 → k ≡ r.count → left new ≡ bits_of r.rest.now
    → more_zeros (z + k) (unary (left new)) ≡ more_zeros z (unary (left r))
moved_zeros r new z k h e same = rw (same, zeros_left r h, e) (more_zeros-add z r.count (unary (bits_of r.rest.now)))

pub length-rest : (new r : BitReader) → left new ≡ bits_of r.rest.now → new.count + 8 * length new.rest.now ≡ 8 * length r.rest.now
length-rest new r same = sym (length-left new) ∙ ap length same ∙ length-bits_of r.rest.now

pub shorter : (new r : BitReader) → left new ≡ bits_of r.rest.now → (new.count < 32 → new.rest.now ≡ []) → 0 < length r.rest.now
    → length new.rest.now < length r.rest.now
shorter new r same filled some = elim (cases_lt new.count 32) [
  | inl h ↦ omega (arith, ap length (filled h))
  | inr h ↦ omega (arith, length-rest new r same)
]
