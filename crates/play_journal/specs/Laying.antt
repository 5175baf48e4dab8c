-- What a crash leaves while a file is laid down.
use Rattle.std.specs.Prelude.{◌≡◌, ◌⊎◌, ◌+◌, ◌≤◌, ◌++◌, List, ℕ, length, take}
use Rattle.disk_model.specs.Behind.{IsBehind}
use Rattle.disk_model.specs.History.{Change}
use Rattle.play_journal.specs.File.{IsShut}

-- the file as it was, or one that is shut
abbrev pub IsSameOrShut : List ℕ → List ℕ → Type 0
IsSameOrShut old image = (image ≡ old) ⊎ IsShut image

-- the file as it was, one that is shut, or the new one
abbrev pub IsLaidDown : List ℕ → List ℕ → List ℕ → Type 0
IsLaidDown old new image = IsSameOrShut old image ⊎ (image ≡ new)

-- what was done since lies behind this offset: writes and cuts alone
abbrev pub IsDoneBehind : ℕ → List Change → List Change → Type 0
IsDoneBehind start old new = (made : List Change) × (new ≡ made ++ old) × IsBehind start made

-- these bytes stand at an offset, behind what stood before it
pub record EndsWith (start : ℕ) (bytes old new : List ℕ) : Type 0 where
  pub long : start + length bytes ≤ length new
  pub spelled : take (start + length bytes) new ≡ take start old ++ bytes
