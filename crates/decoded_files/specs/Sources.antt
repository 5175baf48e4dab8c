-- What a connection to a decoder is a source of.
use Rattle.std.specs.Prelude.{◌≡◌, ℕ, List, [], length, Option, Some, option_and_then, unwrap_or}
use Rattle.decoded_files.specs.Pieces.{Piece, IsPieceAt}

-- the WAVE file of the path that was opened
abbrev pub opened_wave : (List ℕ → Option (List ℕ)) → Option (List ℕ) → Option (List ℕ)
opened_wave told opened = option_and_then told opened

-- its bytes
abbrev pub opened_bytes : (List ℕ → Option (List ℕ)) → Option (List ℕ) → List ℕ
opened_bytes told opened = unwrap_or (opened_wave told opened) []

-- a file with a WAVE file of this length was opened
pub record IsOpened (told : List ℕ → Option (List ℕ)) (opened : Option (List ℕ)) (len : ℕ) : Type 0 where
  pub path : List ℕ
  pub file : List ℕ
  pub is_path : opened ≡ Some path
  pub is_wave : told path ≡ Some file
  pub has_length : len ≡ length file

-- nothing more comes, and this piece is one of the file
pub record IsInStep (file coming : List ℕ) (piece : Piece) : Type 0 where
  pub none_comes : coming ≡ []
  pub is_piece : IsPieceAt file piece.start piece.bytes
