-- A number that few URIs share, so that one that stands in no batch is mostly told by it.
use Rattle.std.specs.Prelude.{◌≡◌, ℕ, ◌+◌, ◌-◌, ◌*◌, ◌%◌, ◌<◌, nat_lt, Bool, true, false, List, [], length, slice_index}
use Rattle.std.specs.Prelude.{slice_index_or, if◌then◌else◌}

-- a byte so far from the end
abbrev pub from_end : List ℕ → ℕ → ℕ
from_end text far = slice_index text (length text - far)

-- by the three bytes in front of the last four, which most often are `.wav`
abbrev pub mark_of : List ℕ → ℕ
mark_of text = if nat_lt (length text) 7 then 0 else (from_end text 5 * 100 + from_end text 6 * 10 + from_end text 7) % 1024

-- the mark of each URI is set
abbrev pub AreMarked : List Bool → List (List ℕ) → Type 0
AreMarked marks uris = (k : ℕ) → k < length uris → slice_index_or marks (mark_of (slice_index_or uris k [])) false ≡ true
