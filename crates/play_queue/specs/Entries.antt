-- Edits of the list of entries. What they say of stamps doesn't count: the stamp rule gives those.
use Rattle.std.specs.Prelude.{ℕ, ◌+◌, Bool, not, ◌&&◌, nat_lt, nat_le, List, [], ◌∷◌, ◌++◌, map, filter, take, drop}
use Rattle.std.specs.Prelude.{slice_range, if◌then◌else◌}
use Rattle.std.specs.List.{list_any, enumerate_from}
use Rattle.std.specs.Str.{bytes_eq}
use Rattle.play_queue.specs.declared.entry.Entry.{Entry}

abbrev pub Uris : Type 0
Uris = List (List ℕ)

-- a URI is one of these
abbrev pub is_among : Uris → List ℕ → Bool
is_among uris uri = list_any (λ other. bytes_eq other uri) uris

-- the entries from one position up to, but not including, another
abbrev pub block : List Entry → ℕ → ℕ → List Entry
block entries start end = slice_range entries start end

-- a deletion: the list without its block
abbrev pub deleted : List Entry → ℕ → ℕ → List Entry
deleted entries start end = take start entries ++ drop end entries

-- a move: the first entries of the rest, the block, the remaining ones
abbrev pub moved : List Entry → ℕ → ℕ → ℕ → List Entry
moved entries start end to = take to (deleted entries start end) ++ (block entries start end ++ drop to (deleted entries start end))

-- entries of these URIs, whose ids rise by one
abbrev pub new_entries : ℕ → Uris → List Entry
new_entries first [] = []
new_entries first (uri ∷ uris) = record { id = first; uri = uri; priority = 0; stamp = 1 } ∷ new_entries (first + 1) uris

-- an addition splits the list at its place
abbrev pub added : List Entry → ℕ → List Entry → List Entry
added entries at new = take at entries ++ (new ++ drop at entries)

-- a position lies in one of these ranges
abbrev pub is_in_some : List (ℕ × ℕ) → ℕ → Bool
is_in_some ranges at = list_any (λ range. nat_le range.0 at && nat_lt at range.1) ranges

abbrev pub with_priority : ℕ → Entry → Entry
with_priority priority entry = record entry { priority = priority }

-- a priority is set on each entry of some range
abbrev pub prioritized : List Entry → List (ℕ × ℕ) → ℕ → List Entry
prioritized entries ranges priority =
    map (λ at. if is_in_some ranges at.0 then with_priority priority at.1 else at.1) (enumerate_from 0 entries)

-- a batch takes out the entries of dropped URIs
abbrev pub kept : List Entry → Uris → List Entry
kept entries dropped = filter (λ entry. not (is_among dropped entry.uri)) entries
