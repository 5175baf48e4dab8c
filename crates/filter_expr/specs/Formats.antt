-- The formats of sound that a text gives: `RATE:BITS:CHANNELS`.
use Rattle.std.specs.Prelude.{ℕ, ◌+◌, ◌==◌, ◌&&◌, Bool, true, false, List, [], ◌∷◌, length, Option, Some, None, option_map, if◌then◌else◌}
use Rattle.filter_expr.specs.declared.subject.AudioFormat.{AudioFormat}
use Rattle.filter_expr.specs.declared.subject.Sample.{Sample}
use Rattle.filter_expr.specs.declared.subject.Sample.TheVariants.{Bits8, Bits16, Bits24, Bits32, Float, Dsd}
use Rattle.filter_expr.specs.Times.{◌>>=◌, short_at}

abbrev pub behind : ℕ → List ℕ → Option (List ℕ)
behind byte [] = None
behind byte (b ∷ text) = if b == byte then Some text else None

abbrev pub is_star : List ℕ → Bool
is_star [] = false
is_star (b ∷ text) = b == 42

abbrev pub behind_star : List ℕ → List ℕ
behind_star [] = []
behind_star (b ∷ text) = text

-- a number of ten digits at most, from 1 to another; or a star for any, where that may stand
unfoldable pub part_in : Bool → ℕ → List ℕ → Option (Option ℕ × List ℕ)
part_in stars most text =
    if stars && is_star text then Some (None, behind_star text) else option_map (λ x. (Some x.0, x.1)) (short_at 10 1 most text)

abbrev pub bits : ℕ → Option Sample
bits n =
    if n == 8 then Some Bits8
    else (if n == 16 then Some Bits16 else (if n == 24 then Some Bits24 else (if n == 32 then Some Bits32 else None)))

-- so many bits
abbrev pub bits_at : List ℕ → Option (Option Sample × List ℕ)
bits_at text = short_at 10 1 32 text >>= λ x. bits x.0 >>= λ sample. Some (Some sample, x.1)

-- `f`, `dsd`, or so many bits; or a star
unfoldable pub sample_in : Bool → List ℕ → Option (Option Sample × List ℕ)
sample_in stars [] = None
sample_in stars (b ∷ text) =
    if stars && b == 42 then Some (None, text)
    else (if b == 102 then Some (Some Float, text)
    else (if b == 100 then (behind 115 text >>= λ rest. behind 100 rest >>= λ rest. Some (Some Dsd, rest)) else bits_at (b ∷ text)))

-- a rate up to 1073741823, a sample, and up to 8 channels, with colons between them; with stars in their place, or without
unfoldable pub format_in : Bool → List ℕ → Option AudioFormat
format_in stars text = do
  rate ← part_in stars 1073741823 text
  first ← behind 58 rate.1
  sample ← sample_in stars first
  second ← behind 58 sample.1
  channels ← part_in stars 8 second
  if length channels.1 == 0 then Some (record { rate = rate.0; sample = sample.0; channels = channels.0 }) else None
