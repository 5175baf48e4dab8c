-- A map under texts, seen by the bytes of its keys.
use Rattle.std.specs.Prelude.{ℕ, List, map, string_bytes}
use Rattle.std.specs.declared.string.String.{String}
use Rattle.std.specs.declared.alloc.Global.{Global}

abbrev pub bytes_of_key : {X : Type 0} → String Global × X → List ℕ × X
bytes_of_key e = (string_bytes e.0, e.1)

abbrev pub by_name : {X : Type 0} → List (String Global × X) → List (List ℕ × X)
by_name entries = map bytes_of_key entries
