-- What a file is after zero bytes were put behind its end, or after that was given up.
use Rattle.std.specs.Prelude.{◌≡◌, ℕ, ◌+◌, ◌≤◌, max, List, [], ◌∷◌, ◌++◌, length}
use Rattle.disk_model.specs.Behind.{IsBehind}
use Rattle.disk_model.specs.History.{Change, Wrote, CutTo, Synced}

-- each of these changes is a cut, or a write that ends at this offset or before it
abbrev pub EndsBy : ℕ → List Change → Type 0
EndsBy end [] = Unit {0}
EndsBy end (Wrote at count ∷ changes) = (at + count ≤ end) × EndsBy end changes
EndsBy end (CutTo len ∷ changes) = EndsBy end changes
EndsBy end (Synced bytes ∷ changes) = ⊥

-- What stood there stands there still, and all that was done lies behind it, up to this length, and is synced.
pub record IsLengthened (len : ℕ) (before after : List ℕ) (old new : List Change) : Type 0 where
  pub made : List Change
  pub done : new ≡ Synced after ∷ made ++ old
  pub behind : IsBehind (length before) made
  pub ends : EndsBy len made
  pub rest : List ℕ
  pub front : after ≡ before ++ rest
  pub no_longer : length after ≤ max (length before) len

-- all that was done lies behind what stood there, up to this length, and nothing of it is synced
pub record IsBegunBehind (len : ℕ) (before : List ℕ) (old new : List Change) : Type 0 where
  pub made : List Change
  pub done : new ≡ made ++ old
  pub behind : IsBehind (length before) made
  pub ends : EndsBy len made
