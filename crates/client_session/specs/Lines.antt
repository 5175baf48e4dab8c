-- The lines of a stream of bytes, each ended by a newline.
use Rattle.std.specs.Prelude.{◌≡◌, ℕ, ◌+◌, ◌<◌, ◌≤◌, ◌≢◌, ◌==◌, nat_le, Bool, List, [], ◌∷◌, ◌++◌, length, take, slice_index, if◌then◌else◌}
use Rattle.std.specs.List.{AllByRecursion, take_while}

abbrev pub newline : ℕ
newline = 10

-- how many bytes a line may have before its newline, a carriage return counted
abbrev pub line_limit : ℕ
line_limit = 8192

-- a line as it stands on the stream
abbrev pub ended : List ℕ → List ℕ
ended line = line ++ newline ∷ []

-- the byte before the first line that ends; where none does, it is in no line
abbrev pub onto_first : ℕ → List (List ℕ) → List (List ℕ)
onto_first b [] = []
onto_first b (line ∷ lines) = (b ∷ line) ∷ lines

-- the lines that have ended
abbrev pub lines_of : List ℕ → List (List ℕ)
lines_of [] = []
lines_of (b ∷ bytes) = if b == newline then [] ∷ lines_of bytes else onto_first b (lines_of bytes)

-- a line within the limit
abbrev pub is_short : List ℕ → Bool
is_short line = nat_le (length line) line_limit

-- the lines that are taken: those before the first that is too long
abbrev pub taken_lines : List ℕ → List (List ℕ)
taken_lines stream = take_while is_short (lines_of stream)

-- no byte is a newline
abbrev pub HasNoNewline : List ℕ → Type 0
HasNoNewline bytes = AllByRecursion (λ b. b ≢ newline) bytes

-- a line that is taken
pub record IsLine (line : List ℕ) : Type 0 where
  pub one : HasNoNewline line
  pub short : length line ≤ line_limit

-- no line within the limit has ended at the front: its newline would be among these bytes
abbrev pub IsUnended : List ℕ → Type 0
IsUnended bytes = HasNoNewline (take (line_limit + 1) bytes)

-- behind n other bytes of a line, the line ends at place k of the rest, within the limit
pub record IsLineEnd (n : ℕ) (rest : List ℕ) (k : ℕ) : Type 0 where
  pub within : k < length rest
  pub short : n + k ≤ line_limit
  pub one : HasNoNewline (take k rest)
  pub ends : slice_index rest k ≡ newline
