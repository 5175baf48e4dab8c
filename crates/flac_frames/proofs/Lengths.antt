-- How many bits a reading takes.
use Rattle.std.proofs.Common.{◌≡◌, ℕ, ◌+◌, Bool, List, length, length-drop, drop, take, ap, arith, inl, inr, Result, Ok, Err}
use Rattle.std.proofs.lemmas.Bool.{cases_lt}
use Rattle.flac_frames.specs.Bits.{number_of}
use Rattle.flac_frames.specs.Reading.{unsigned, Reads}
use Rattle.flac_frames.specs.declared.refusal.FrameError.{FrameError}
use Rattle.flac_frames.specs.declared.refusal.FrameError.TheVariants.{Ended}
use Rattle.std.specs.Result.{OnOk}
use Rattle.flac_frames.proofs.SignedReads.{same_read, unsigned_long, unsigned_ended}

pub unsigned_rest : (n : ℕ) (bits : List Bool) (v : ℕ) (rest : List Bool) → unsigned n bits ≡ Ok (record { value = v; rest = rest }) → length rest + n ≡ length bits
unsigned_rest n bits v rest h = elim (cases_lt (length bits) n) [
  | inl l ↦ (let e : unsigned n bits ≡ Err Ended = unsigned_ended n bits l in cc)
  | inr l ↦ (let e : unsigned n bits ≡ Ok (record { value = number_of (take n bits); rest = drop n bits }) = unsigned_long n bits l in
      let p = same_read (unsigned n bits) (record { value = v; rest = rest }) (record { value = number_of (take n bits); rest = drop n bits }) h e in
      omega (arith, ap length p.1, length-drop n bits))
]

pub reads_rest : (n : ℕ) (bits : List Bool) (r : Result ℕ FrameError) (rest : List Bool) → Reads (unsigned n) bits r rest → OnOk r (length rest + n ≡ length bits)
reads_rest n bits (Ok v) rest h = unsigned_rest n bits v rest h
reads_rest n bits (Err e) rest h = tt
