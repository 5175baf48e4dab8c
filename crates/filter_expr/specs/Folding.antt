-- What texts are compared by where the case doesn't count.
use Rattle.std.specs.Prelude.{ℕ, List, chars, encode_utf8_all}
use Rattle.caseless.specs.Caseless.{default_case_fold}
use Rattle.filter_expr.specs.declared.case.Case.{Case}
use Rattle.filter_expr.specs.declared.case.Case.TheVariants.{Exact, Folded}

-- Unicode's default caseless folding of the whole text
unfoldable pub folded : List ℕ → List ℕ
folded text = encode_utf8_all (default_case_fold (chars text))

abbrev pub in_case : Case → List ℕ → List ℕ
in_case Exact text = text
in_case Folded text = folded text
