-- The spelling of numbers and texts. Numbers are little-endian.
use Rattle.std.specs.Prelude.{ℕ, List, [], ◌∷◌, ◌++◌, Bool, true, false, length}
use Rattle.std.specs.List.{flat_map}
use Rattle.std.specs.Int.{w16, w32, w64, to_le_bytes}
use Rattle.player_core.specs.declared.options.Single.{Single}
use Rattle.player_core.specs.declared.options.Single.TheVariants.{Off, On, Oneshot}
use Rattle.player_core.specs.declared.playing.PlayState.{PlayState}
use Rattle.player_core.specs.declared.playing.PlayState.TheVariants.{Stop, Play, Pause}

abbrev pub byte_bytes : ℕ → List ℕ
byte_bytes n = n ∷ []

abbrev pub u32_bytes : ℕ → List ℕ
u32_bytes n = to_le_bytes w32 n

abbrev pub u64_bytes : ℕ → List ℕ
u64_bytes n = to_le_bytes w64 n

abbrev pub pair_bytes : ℕ × ℕ → List ℕ
pair_bytes pair = u32_bytes pair.0 ++ u32_bytes pair.1

abbrev pub flag_bytes : Bool → List ℕ
flag_bytes false = 0 ∷ []
flag_bytes true = 1 ∷ []

abbrev pub single_bytes : Single → List ℕ
single_bytes Off = 0 ∷ []
single_bytes On = 1 ∷ []
single_bytes Oneshot = 2 ∷ []

abbrev pub state_number : PlayState → ℕ
state_number Stop = 0
state_number Pause = 1
state_number Play = 2

abbrev pub state_bytes : PlayState → List ℕ
state_bytes state = byte_bytes (state_number state)

-- a text: its length in 16 bits, and its bytes
abbrev pub text_bytes : List ℕ → List ℕ
text_bytes text = to_le_bytes w16 (length text) ++ text

-- items behind their number
abbrev pub list_bytes : {A : Type 0} → (A → List ℕ) → List A → List ℕ
list_bytes item items = u32_bytes (length items) ++ flat_map item items
