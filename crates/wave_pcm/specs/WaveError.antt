-- The numbers of the refusals.
use Rattle.std.specs.Prelude.{ℕ}
use Rattle.wave_pcm.specs.declared.refusal.WaveError.{WaveError}
use Rattle.wave_pcm.specs.declared.refusal.WaveError.TheVariants.{NoMemory, NotWave, NoFormat, Unsupported, NoData, ReadFault, TooManyTurns}

abbrev pub number_of : WaveError → ℕ
number_of NoMemory = 7
number_of NotWave = 11
number_of NoFormat = 12
number_of (Unsupported tag bits channels) = 13
number_of NoData = 14
number_of ReadFault = 15
number_of TooManyTurns = 16

-- Memory was wanting, or the source failed: no verdict on the file.
abbrev pub Fails : Type 0 → WaveError → Type 0
Fails fault NoMemory = Unit {0}
Fails fault ReadFault = fault
Fails fault NotWave = ⊥
Fails fault NoFormat = ⊥
Fails fault (Unsupported tag bits channels) = ⊥
Fails fault NoData = ⊥
Fails fault TooManyTurns = ⊥
