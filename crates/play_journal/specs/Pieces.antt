-- Bytes that are handed over in pieces.
use Rattle.std.specs.Prelude.{◌≡◌, ◌≢◌, ℕ, ◌+◌, ◌/◌, ◌≤◌, List, [], ◌++◌, length}

-- how many bytes a piece has at most
abbrev pub longest_piece : ℕ
longest_piece = 65536

-- and how many at least, unless it is the last one
abbrev pub shortest_piece : ℕ
shortest_piece = 32768

-- the front of the bytes that were left, and the rest of them
pub record IsPiece (left piece rest : List ℕ) : Type 0 where
  pub parted : left ≡ piece ++ rest
  pub fits : length piece ≤ longest_piece
  pub full : rest ≢ [] → shortest_piece ≤ length piece

-- how many pieces so many bytes come in, at most
abbrev pub most_pieces : ℕ → ℕ
most_pieces size = 1 + size / shortest_piece
