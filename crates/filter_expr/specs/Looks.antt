-- How often songs are looked at by a filter.
use Rattle.std.specs.Prelude.{ℕ, Bool, true, false, ◌+◌, ◌-◌, ◌*◌, ◌/◌, min, max, nat_lt, List, [], ◌∷◌, length, count_by}
use Rattle.std.specs.Prelude.{Option, Some, None, if◌then◌else◌}
use Rattle.std.specs.Option.{option_or}
use Rattle.song_db.specs.Row.{Row}
use Rattle.song_db.specs.Valued.{has_value}
use Rattle.song_files.specs.declared.tag.Tag.{Tag}
use Rattle.profile.specs.declared.profile.Profile.{Profile}
use Rattle.profile.specs.declared.profile.Profile.TheVariants.{Named, Wide}
use Rattle.regular_expr.specs.Patterns.{visits_by}
use Rattle.filter_expr.specs.declared.case.Case.{Case}
use Rattle.filter_expr.specs.declared.case.Case.TheVariants.{Exact, Folded}
use Rattle.filter_expr.specs.declared.subject.Comparison.{Comparison}
use Rattle.filter_expr.specs.declared.subject.Comparison.TheVariants.{Contains, Begins}
use Rattle.filter_expr.specs.declared.subject.Subject.TheVariants.{OfTag}
use Rattle.filter_expr.specs.Fallback.{has_fallback}
use Rattle.filter_expr.specs.Tree.{Tree}
use Rattle.filter_expr.specs.Tree.Tree.{Test, Like, Base, Since, Format, Not, And}

-- a pattern counts as a test for each of its leaves that are looked at for a byte, up to 65535, and as one at least
abbrev pub tests_by : List ℕ → ℕ
tests_by source = max (min (visits_by source) 65535) 1

-- how many tests a filter has, counted up to 4294967295
abbrev pub tests_of : Tree → ℕ
tests_of (Test subject comparison value) = 1
tests_of (Like subject source) = tests_by source
tests_of (Base base) = 1
tests_of (Since time) = 1
tests_of (Format format) = 1
tests_of (Not inner) = tests_of inner
tests_of (And left right) = min (tests_of left + tests_of right) 4294967295

-- a test that holds of songs without its value
abbrev pub needs_none : Comparison → Bool
needs_none Contains = true
needs_none Begins = true
needs_none comparison = false

-- A tag's value that each song has that is denoted where the case counts: one of the parts that must all hold says so, of several the last.
-- Where the texts of other tags may stand in for a tag's, there is none.
abbrev pub needed_value : Tree → Option (Tag × List ℕ)
needed_value (Test (OfTag tag) comparison []) = None
needed_value (Test (OfTag tag) comparison (v ∷ value)) =
    if needs_none comparison then None else (if has_fallback tag then None else Some (tag, v ∷ value))
needed_value (And left right) = option_or (needed_value right) (needed_value left)
needed_value tree = None

abbrev pub looked_up : Case → Tree → Option (Tag × List ℕ)
looked_up Exact tree = needed_value tree
looked_up Folded tree = None

-- how many songs are asked: all, or those with the value
abbrev pub asked : Option (Tag × List ℕ) → List Row → ℕ
asked None songs = length songs
asked (Some needed) songs = count_by (has_value needed.0 needed.1) songs

-- each song is asked all tests; or each with the value, by which it was looked up, the others
abbrev pub looks_by : Option (Tag × List ℕ) → ℕ → ℕ → List Row → ℕ
looks_by None tests more songs = (tests + more) * length songs
looks_by (Some needed) tests more songs = (tests - 1 + more) * count_by (has_value needed.0 needed.1) songs

-- How often songs are looked at: once for each test that is asked, and so much more for each that is asked any.
abbrev pub song_looks : Case → Tree → ℕ → List Row → ℕ
song_looks case tree more songs = looks_by (looked_up case tree) (tests_of tree) more songs

-- songs are few, of which a look-up is worth it though they are told in another order than they are kept in
abbrev pub are_few : Option (Tag × List ℕ) → List Row → Bool
are_few needed songs = nat_lt (asked needed songs) (length songs / 16)

-- by what songs are looked up that are told in a profile's order: in the wide one all are asked, unless they are few
abbrev pub told_by : Profile → Option (Tag × List ℕ) → List Row → Option (Tag × List ℕ)
told_by Named needed songs = needed
told_by Wide needed songs = if are_few needed songs then needed else None

-- how often songs are looked at where they are told
abbrev pub told_looks : Profile → Case → Tree → ℕ → List Row → ℕ
told_looks profile case tree more songs = looks_by (told_by profile (looked_up case tree) songs) (tests_of tree) more songs
