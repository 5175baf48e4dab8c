-- The filter that words spell, or the first fault from the left.
use Rattle.std.specs.Prelude.{ℕ, zero, suc, ◌||◌, List, [], ◌∷◌, length, Bool, true, false, Option, Some, None, Result, Ok, Err, codes}
use Rattle.std.specs.Prelude.{if◌then◌else◌}
use Rattle.profile.specs.declared.profile.Profile.{Profile}
use Rattle.profile.specs.declared.profile.Profile.TheVariants.{Named, Wide}
use Rattle.regular_expr.specs.Patterns.{is_pattern}
use Rattle.filter_expr.specs.declared.subject.AudioFormat.{AudioFormat}
use Rattle.filter_expr.specs.declared.subject.Subject.{Subject}
use Rattle.filter_expr.specs.declared.subject.Subject.TheVariants.{OfTag, Any, AnyText, File}
use Rattle.filter_expr.specs.declared.subject.Comparison.TheVariants.{Equals, Contains, Begins}
use Rattle.filter_expr.specs.declared.name.Key.{Key}
use Rattle.filter_expr.specs.declared.name.Key.TheVariants as keys
use Rattle.filter_expr.specs.declared.operator.Operator.{Operator}
use Rattle.filter_expr.specs.declared.operator.Operator.TheVariants as operators
use Rattle.filter_expr.specs.Parts.{Fault, ◌>>=◌, opening, closing, exclamation, equals_sign, tilde, begins_so, without_blanks}
use Rattle.filter_expr.specs.Parts.{byte_at, word_at, letters_at, gap_at, between_gaps, key_at, value_at}
use Rattle.filter_expr.specs.Formats.{format_in}
use Rattle.filter_expr.specs.Parts.Fault.{Bad, Deep}
use Rattle.filter_expr.specs.Times.{time_in}
use Rattle.filter_expr.specs.Tree.{Tree}
use Rattle.filter_expr.specs.Tree.Tree.{Test, Like, Base, Since, Format, Not, And}

abbrev pub is_file : Subject → Bool
is_file (OfTag tag) = false
is_file Any = false
is_file AnyText = false
is_file File = true

-- of the named subset: `==`, or, where that isn't all, `!=` or `contains`
unfoldable pub named_operator_at : Bool → List ℕ → Result (Operator × List ℕ) Fault
named_operator_at true text = word_at (codes "==") (without_blanks text) >>= λ rest. Ok (operators.Equal, rest)
named_operator_at false text =
    if begins_so equals_sign (without_blanks text) then (word_at (codes "==") (without_blanks text) >>= λ rest. Ok (operators.Equal, rest))
    else (if begins_so exclamation (without_blanks text)
    then (word_at (codes "!=") (without_blanks text) >>= λ rest. Ok (operators.Unequal, rest))
    else (between_gaps (codes "contains") text >>= λ rest. Ok (operators.Contains, rest)))

-- behind `=`: `=` or `~`
abbrev pub equal_at : List ℕ → Result (Operator × List ℕ) Fault
equal_at text =
    if begins_so tilde text then (byte_at tilde text >>= λ rest. Ok (operators.Like, rest))
    else (byte_at equals_sign text >>= λ rest. Ok (operators.Equal, rest))

-- a word of letters in any case, and a blank at least
abbrev pub spaced_word : Operator → List ℕ → List ℕ → Result (Operator × List ℕ) Fault
spaced_word operator word text = do
  behind ← letters_at word text
  rest ← gap_at behind
  Ok (operator, rest)

-- behind `!`: `~`, `=` or `contains`
abbrev pub negated_at : List ℕ → Result (Operator × List ℕ) Fault
negated_at text =
    if begins_so tilde text then (byte_at tilde text >>= λ rest. Ok (operators.Unlike, rest))
    else (if begins_so equals_sign text then (byte_at equals_sign text >>= λ rest. Ok (operators.Unequal, rest))
    else spaced_word operators.Lacks (codes "contains") text)

-- a word of its own: `starts_with` or `contains`
abbrev pub word_operator_at : List ℕ → Result (Operator × List ℕ) Fault
word_operator_at text =
    if begins_so 115 text || begins_so 83 text then spaced_word operators.Begins (codes "starts_with") text
    else spaced_word operators.Contains (codes "contains") text

-- of the wide profile: `==`, `=~`, `!=`, `!~`, `!contains`, or behind a blank `contains` or `starts_with`
unfoldable pub wide_operator_at : List ℕ → Result (Operator × List ℕ) Fault
wide_operator_at text =
    if begins_so equals_sign (without_blanks text) then (byte_at equals_sign (without_blanks text) >>= equal_at)
    else (if begins_so exclamation (without_blanks text) then (byte_at exclamation (without_blanks text) >>= negated_at)
    else (gap_at text >>= word_operator_at))

-- what a profile knows; in the named subset a file is compared by `==` alone
unfoldable pub operator_at : Profile → Subject → List ℕ → Result (Operator × List ℕ) Fault
operator_at Named subject text = named_operator_at (is_file subject) text
operator_at Wide subject text = wide_operator_at text

abbrev pub test_tree : Subject → Operator → List ℕ → Tree
test_tree subject operators.Equal value = Test subject Equals value
test_tree subject operators.Unequal value = Not (Test subject Equals value)
test_tree subject operators.Contains value = Test subject Contains value
test_tree subject operators.Lacks value = Not (Test subject Contains value)
test_tree subject operators.Begins value = Test subject Begins value
test_tree subject operators.Like value = Like subject value
test_tree subject operators.Unlike value = Not (Like subject value)

abbrev pub is_by_pattern : Operator → Bool
is_by_pattern operators.Like = true
is_by_pattern operators.Unlike = true
is_by_pattern operator = false

-- a value that is good for an operator
abbrev pub is_good_value : Operator → List ℕ → Bool
is_good_value operator value = if is_by_pattern operator then is_pattern value else true

-- a test against a pattern, from whose text so many bytes stand to the end of the whole
abbrev pub patterned : Subject → List ℕ → ℕ → Result Tree Fault
patterned subject value left = if is_pattern value then Ok (Like subject value) else Err (Bad left)

-- a test, from whose value so many bytes stand to the end of the text
abbrev pub tested : Subject → Operator → List ℕ → ℕ → Result Tree Fault
tested subject operator value left = if is_good_value operator value then Ok (test_tree subject operator value) else Err (Bad left)

-- how a format is compared: `==`, or `=~` with stars
unfoldable pub stars_at : List ℕ → Result (Bool × List ℕ) Fault
stars_at text =
    byte_at equals_sign text >>= λ behind. if begins_so tilde behind then (byte_at tilde behind >>= λ rest. Ok (true, rest))
    else (byte_at equals_sign behind >>= λ rest. Ok (false, rest))

abbrev pub format_of : Option AudioFormat → ℕ → List ℕ → Result (Tree × List ℕ) Fault
format_of None left rest = Err (Bad left)
format_of (Some format) left rest = Ok (Format format, rest)

-- a value that is a time, where so many bytes stand from it to the end of the text
abbrev pub since_of : Option ℕ → ℕ → List ℕ → Result (Tree × List ℕ) Fault
since_of None left rest = Err (Bad left)
since_of (Some time) left rest = Ok (Since time, rest)

-- `TAG == V` and its kin, `base V`, `modified-since V` or `AudioFormat == V`, behind its name
unfoldable pub test_of : Profile → Key → List ℕ → Result (Tree × List ℕ) Fault
test_of profile keys.Base text = do
  value ← value_at (without_blanks text)
  Ok (Base value.0, value.1)
test_of profile keys.Since text = do
  value ← value_at (without_blanks text)
  since_of (time_in value.0) (length (without_blanks text)) value.1
test_of profile keys.Format text = do
  stars ← stars_at (without_blanks text)
  value ← value_at (without_blanks stars.1)
  format_of (format_in stars.0 value.0) (length (without_blanks stars.1)) value.1
test_of profile (keys.Of subject) text = do
  operator ← operator_at profile subject text
  value ← value_at (without_blanks operator.1)
  tree ← tested subject operator.0 value.0 (length (without_blanks operator.1))
  Ok (tree, value.1)

abbrev pub Reader : Type 0
Reader = List ℕ → Result (Tree × List ℕ) Fault

-- what was read, and behind it the closing parenthesis
unfoldable pub closed : Tree × List ℕ → Result (Tree × List ℕ) Fault
closed x = do
  rest ← byte_at closing (without_blanks x.1)
  Ok (x.0, rest)

unfoldable pub test_at : Profile → Reader
test_at profile text = do
  key ← key_at profile text
  test ← test_of profile key.0 key.1
  closed test

-- `!EXPR)`, where `read` reads EXPR
unfoldable pub negation_at : Reader → Reader
negation_at read text = do
  inner ← byte_at exclamation text
  x ← read (without_blanks inner)
  closed (Not x.0, x.1)

-- behind an EXPR: the closing parenthesis, or AND and another EXPR, and so on, at most so often
unfoldable pub others_at : Reader → ℕ → Tree × List ℕ → Result (Tree × List ℕ) Fault
others_at read zero x = closed x
others_at read (suc most) x =
    if begins_so closing (without_blanks x.1) then closed x
    else (between_gaps (codes "AND") x.1 >>= λ rest. read rest >>= λ y. others_at read most (And x.0 y.0, y.1))

-- `EXPR)` and `EXPR AND EXPR ...)`; a text has no more of them than bytes
unfoldable pub group_at : Reader → Reader
group_at read text = do
  x ← read text
  others_at read (length x.1) x

-- what stands behind an opening parenthesis
unfoldable pub inside_at : Profile → Reader → Reader
inside_at profile read text =
    if begins_so opening text then group_at read text
    else (if begins_so exclamation text then negation_at read text else test_at profile text)

-- an EXPR in which so many parentheses may be open at once
unfoldable pub expression_at : Profile → ℕ → Reader
expression_at profile zero text = do
  rest ← byte_at opening text
  Err (Deep (length text))
expression_at profile (suc room) text = do
  rest ← byte_at opening text
  inside_at profile (expression_at profile room) (without_blanks rest)

abbrev pub is_nil : List ℕ → Bool
is_nil [] = true
is_nil (b ∷ text) = false

-- how many parentheses may be open at once
abbrev pub most_open : ℕ
most_open = 32

-- an EXPR and nothing behind it
abbrev pub alone : Tree × List ℕ → Result Tree Fault
alone x = if is_nil x.1 then Ok x.0 else Err (Bad (length x.1))

-- in the wide profile blanks may stand behind it
abbrev pub trimmed : Profile → List ℕ → List ℕ
trimmed Named rest = rest
trimmed Wide rest = without_blanks rest

unfoldable pub whole : Profile → List ℕ → Result Tree Fault
whole profile word = expression_at profile most_open word >>= λ x. alone (x.0, trimmed profile x.1)
