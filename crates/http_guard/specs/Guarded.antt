-- What reads of a guarded stream give.
use Rattle.std.specs.Prelude.{◌≡◌, ℕ, List, [], ◌++◌, Option, None, Some, true, option_map, if◌then◌else◌}
use Rattle.http_guard.specs.FirstLine.{is_shut_out}
use Rattle.http_guard.specs.declared.guarded.Passage.{Passage}
use Rattle.http_guard.specs.declared.guarded.Passage.TheVariants.{Looking, Open, Shut}

-- a stream from its beginning on: nothing of it where it is shut out
abbrev pub let_in : List ℕ → List ℕ
let_in stream = if is_shut_out stream then [] else stream

-- what reads give that are behind the guard, of the bytes that are held and those that are still to be read
abbrev pub behind_guard : Passage → List ℕ → List ℕ → List ℕ
behind_guard Looking held rest = let_in (held ++ rest)
behind_guard Open held rest = held ++ rest
behind_guard Shut held rest = []

-- the same, where the bytes that are still to be read are known
abbrev pub known_behind_guard : Passage → List ℕ → Option (List ℕ) → Option (List ℕ)
known_behind_guard passage held rest = option_map (behind_guard passage held) rest

-- the bytes that are held and those behind them are known to be a stream that is shut out
abbrev pub IsKnownShutOut : List ℕ → Option (List ℕ) → Type 0
IsKnownShutOut held None = ⊥
IsKnownShutOut held (Some rest) = is_shut_out (held ++ rest) ≡ true

-- nothing is given of this stream: that is known already, or it begins so
abbrev pub IsShutOut : Passage → List ℕ → Option (List ℕ) → Type 0
IsShutOut Looking held rest = IsKnownShutOut held rest
IsShutOut Open held rest = ⊥
IsShutOut Shut held rest = Unit {0}
