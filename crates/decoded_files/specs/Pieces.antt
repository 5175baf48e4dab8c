-- Pieces of a file.
use Rattle.std.specs.Prelude.{◌≡◌, ℕ, ◌+◌, ◌-◌, List, [], length, drop, slice_range, nat_le, if◌then◌else◌}

-- bytes that were read last, and the place of the first of them
pub record Piece : Type 0 where
  pub start : ℕ
  pub bytes : List ℕ

-- these bytes stand in the file from a place on
abbrev pub IsPieceAt : List ℕ → ℕ → List ℕ → Type 0
IsPieceAt file at bytes = bytes ≡ slice_range file at (at + length bytes)

-- what a piece has from a place on
unfoldable pub bytes_from : Piece → ℕ → List ℕ
bytes_from piece at = if nat_le piece.start at then drop (at - piece.start) piece.bytes else []
