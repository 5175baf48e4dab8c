-- What stands under texts, rising by their bytes: the values of one song, and the songs.
use Rattle.std.specs.Prelude.{ℕ, not, List, filter, Option}
use Rattle.std.specs.Cmp.Lexicographic.{slice_cmp}
use Rattle.std.specs.Ordering.{nat_cmp}
use Rattle.std.specs.List.Sorted.{IsStrictlySortedBy}
use Rattle.std.specs.Map.{keys_of, lookup}
use Rattle.std.specs.BTreeMap.{insert_entry}
use Rattle.std.specs.Str.{bytes_eq}

-- the names rise by their bytes, so none comes twice
abbrev pub IsRising : {X : Type 0} → List (List ℕ × X) → Type 0
IsRising named = IsStrictlySortedBy (slice_cmp nat_cmp) (keys_of named)

-- what stands under a name
abbrev pub under : {X : Type 0} → List (List ℕ × X) → List ℕ → Option X
under named name = lookup (bytes_eq name) named

-- with something under a name: a new name takes its place by bytes
abbrev pub with_name : {X : Type 0} → List (List ℕ × X) → List ℕ → X → List (List ℕ × X)
with_name named name x = insert_entry (slice_cmp nat_cmp) named name x

-- without a name
abbrev pub without_name : {X : Type 0} → List (List ℕ × X) → List ℕ → List (List ℕ × X)
without_name named name = filter (λ e. not (bytes_eq name e.0)) named

-- the values of one song under their names
abbrev pub Values : Type 0
Values = List (List ℕ × List ℕ)

-- the values of all songs under their URIs
abbrev pub Songs : Type 0
Songs = List (List ℕ × Values)
