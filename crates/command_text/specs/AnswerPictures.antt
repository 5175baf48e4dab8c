-- What is told of a picture.
use Rattle.std.specs.Prelude.{ℕ, List, [], ◌∷◌, ◌++◌, length, Option, Some, None, codes}
use Rattle.command_text.specs.Answer.{number_pair, pair}

-- its MIME type, where that is told
abbrev pub type_line : Option (List ℕ) → List ℕ
type_line None = []
type_line (Some mime) = pair (codes "type") mime

-- the size of the whole picture, its type, how many of its bytes follow, these, and a newline
abbrev pub picture_lines : ℕ → Option (List ℕ) → List ℕ → List ℕ
picture_lines size mime bytes =
    number_pair (codes "size") size ++ (type_line mime ++ (number_pair (codes "binary") (length bytes) ++ (bytes ++ 10 ∷ [])))
