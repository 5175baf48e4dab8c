-- The frames of the decoder's protocol. All numbers are little-endian.
use Rattle.std.specs.Prelude.{ℕ, List, ◌∷◌, ◌++◌, length}
use Rattle.std.specs.Int.{w32, w64, to_le_bytes}

-- how many bytes follow, and these
abbrev pub frame : List ℕ → List ℕ
frame body = to_le_bytes w32 (length body) ++ body

-- the request to open the file at a path, the first of a connection
abbrev pub open_request : List ℕ → List ℕ
open_request path = frame (1 ∷ path)

-- the request of so many bytes from an offset on
abbrev pub read_request : ℕ → ℕ → List ℕ
read_request at count = frame (2 ∷ to_le_bytes w64 at ++ to_le_bytes w32 count)
