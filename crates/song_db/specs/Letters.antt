-- How names and albums are ordered: by their letters, whatever their case and without marks, and then by their bytes.
use Rattle.std.specs.Prelude.{ℕ, suc, ◌+◌, ◌==◌, List, [], ◌∷◌, ◌++◌, map, chars, codes, nat_lt, Option, Some, None, slice_index_or, if◌then◌else◌}
use Rattle.std.specs.Char.{to_ascii_lowercase}
use Rattle.std.specs.Cmp.Lexicographic.{slice_cmp}
use Rattle.std.specs.List.{position, range_with_len}
use Rattle.std.specs.Ordering.{nat_cmp, ordering_then}
use Rattle.std.specs.declared.cmp.Ordering.{Ordering}
use Rattle.ucd_case.specs.CaseFolding.{simple_fold}
use Rattle.ucd_normal.specs.Decomposition.{canonical_decomposition}

-- the signs and digits of ASCII, in the order in which Unicode's collation has them
abbrev pub signs : List ℕ
signs = codes " _-,;:!?.'\"()[]{}@*/\\&#%`^+<=>|~$0123456789"

-- a sign by its place among them, any other character of ASCII behind all of them, whatever its case
abbrev pub sign_or_letter : Option ℕ → ℕ → ℕ
sign_or_letter (Some place) c = suc place
sign_or_letter None c = to_ascii_lowercase c + 64

abbrev pub ascii_letter : ℕ → ℕ
ascii_letter c = sign_or_letter (position (λ s. s == c) signs) c

-- what stands for each character of ASCII
unfoldable pub ascii_letters : List ℕ
ascii_letters = map ascii_letter (range_with_len 0 128)

-- a letter without its marks, whatever its case
abbrev pub base_of : ℕ → ℕ
base_of c = simple_fold (slice_index_or (canonical_decomposition c) 0 c)

-- the number of a character, which is never 0; what isn't ASCII is a letter
unfoldable pub letter : ℕ → ℕ
letter c = if nat_lt c 128 then ascii_letter c else base_of c + 64

-- A text as numbers, so that of two texts that is before the other whose numbers are: by their letters, and where these are the same by
-- their bytes. 0 ends both, so what follows is looked at behind an equal text alone.
unfoldable pub text_key : List ℕ → List ℕ
text_key text = map letter (chars text) ++ 0 ∷ (map suc text ++ 0 ∷ [])

-- the same comparison, in two steps
abbrev pub text_cmp : List ℕ → List ℕ → Ordering
text_cmp a b = ordering_then (slice_cmp nat_cmp (map letter (chars a)) (map letter (chars b))) (slice_cmp nat_cmp a b)
