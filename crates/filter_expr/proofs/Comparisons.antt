-- A test's text, both ways.
use Rattle.std.proofs.Common.{◌≡◌, ℕ, Bool, true, false, cond, ◌||◌, List, [], ◌∷◌, ◌++◌, Result, Ok, refl, sym, ap, ◌∙◌, subst, arith}
use Rattle.std.proofs.Common.{append_assoc, length, map, nat_eq, nat_lt, inl, inr}
use Rattle.std.specs.Prelude.{codes}
use Rattle.std.proofs.lemmas.Bool.{and_parts, eqb-true, eq-eqb, ne_eqb, false≢true, cases_Bool, cases_lt, agree_below_at, le-ltb}
use Rattle.std.specs.Char.{to_ascii_lowercase}
use Rattle.std.specs.List.{list_all}
use Rattle.profile.specs.declared.profile.Profile.{Profile}
use Rattle.profile.specs.declared.profile.Profile.TheVariants.{Named, Wide}
use Rattle.filter_expr.specs.declared.operator.Operator.{Operator}
use Rattle.filter_expr.specs.declared.operator.Operator.TheVariants as operators
use Rattle.filter_expr.specs.declared.subject.Subject.{Subject}
use Rattle.filter_expr.specs.Grammar.{AreBlanks, IsGap, IsSign, AreLetters, IsSpaced, IsWideOperator, IsNamedOperator, IsOperator, IsFormatSign}
use Rattle.filter_expr.specs.Parts.{Fault, ◌>>=◌, is_blank, ends_name, without_blanks, begins_so, equals_sign, exclamation, tilde, byte_at, word_at, letter_at, letters_at, gap_at}
use Rattle.filter_expr.specs.Parts.{between_gaps}
use Rattle.filter_expr.specs.Parts.Fault.{Bad}
use Rattle.filter_expr.specs.Reading.{is_file, named_operator_at, equal_at, spaced_word, negated_at, word_operator_at, wide_operator_at, operator_at, stars_at}
use Rattle.filter_expr.proofs.Pieces.{bind_ok, word_found, word_again, blanks_found, blanks_again, gap_found, gap_again, gap_bare, bare}
use Rattle.filter_expr.proofs.Pieces.{ok_same, guard_ok, byte_found, blanks_stop}
use Rattle.filter_expr.proofs.Keys.{EndsName, blank_ends, ends_blanks, lower_ends, no_blank, no_byte}

-- a word, with blanks around it
pub signed : (word text rest : List ℕ) → word_at word (without_blanks text) ≡ Ok rest
    → (before after : List ℕ) × AreBlanks before × AreBlanks after × (text ≡ (before ++ (word ++ after)) ++ without_blanks rest)
signed word text rest h =
    let b = blanks_found text in
    let a = blanks_found rest in
    let inner : without_blanks text ≡ word ++ (a.0 ++ without_blanks rest) =
    word_found word (without_blanks text) rest h ∙ ap (λ (s : List ℕ). word ++ s) a.2 in (
      b.0,
      a.0,
      b.1,
      a.1,
      b.2 ∙ ap (λ (s : List ℕ). b.0 ++ s) (inner ∙ sym (append_assoc word a.0 (without_blanks rest)))
          ∙ sym (append_assoc b.0 (word ++ a.0) (without_blanks rest)),
    )

-- a word between gaps
pub spaced : (word text rest : List ℕ) → between_gaps word text ≡ Ok rest
    → (before after : List ℕ) × IsGap before × IsGap after × (text ≡ before ++ (word ++ (after ++ rest))) × (without_blanks rest ≡ rest)
unfolding between_gaps
spaced word text rest h =
    let first = bind_ok (gap_at text) (λ inner. word_at word inner >>= gap_at) rest h in
    let second = bind_ok (word_at word first.0) gap_at rest first.2 in
    let b = gap_found text first.0 first.1 in
    let a = gap_found second.0 rest second.2 in (
      b.0,
      a.0,
      b.1,
      a.1,
      b.2 ∙ ap (λ (s : List ℕ). b.0 ++ s) (word_found word first.0 second.0 second.1
          ∙ ap (λ (s : List ℕ). word ++ s) a.2),
      gap_bare second.0 rest second.2,
    )

-- a word between gaps is read, and the blanks behind it
pub spaced_again : (word before after tail : List ℕ) → IsGap before → IsGap after
    → without_blanks (word ++ (after ++ tail)) ≡ word ++ (after ++ tail)
    → between_gaps word (before ++ (word ++ (after ++ tail))) ≡ Ok (without_blanks tail)
unfolding between_gaps
spaced_again word before after tail b a bare =
    ap (λ r. r >>= λ inner. word_at word inner >>= gap_at) (gap_again before (word ++ (after ++ tail)) b ∙ ap (λ (s : List ℕ). Ok s) bare)
    ∙ ap (λ r. r >>= gap_at) (word_again word (after ++ tail)) ∙ gap_again after tail a

pub regroup : (a b c d : List ℕ) → (a ++ (b ++ c)) ++ d ≡ a ++ (b ++ (c ++ d))
regroup a b c d = append_assoc a (b ++ c) d ∙ ap (λ (s : List ℕ). a ++ s) (append_assoc b c d)

-- blanks in front of a word that begins with none
pub bare_again : (before word after tail : List ℕ) → AreBlanks before → without_blanks (word ++ (after ++ tail)) ≡ word ++ (after ++ tail)
    → without_blanks ((before ++ (word ++ after)) ++ tail) ≡ word ++ (after ++ tail)
bare_again before word after tail b bare = ap without_blanks (regroup before word after tail)
    ∙ blanks_again before (word ++ (after ++ tail)) b ∙ bare

-- an operator of the named subset is read so
abbrev NamedFound : Bool → List ℕ → Operator × List ℕ → Type 0
NamedFound only text x = (middle : List ℕ) × IsNamedOperator only x.0 middle × (text ≡ middle ++ without_blanks x.1)

equal_found : (only : Bool) (text : List ℕ) (x : Operator × List ℕ)
    → (word_at (codes "==") (without_blanks text) >>= λ rest. Ok (operators.Equal, rest)) ≡ Ok x → NamedFound only text x
equal_found only text x h =
    let read = bind_ok {A = List ℕ} {B = Operator × List ℕ} (word_at (codes "==") (without_blanks text))
    (λ rest. Ok (operators.Equal, rest)) x h in
    let sign = signed (codes "==") text read.0 read.1 in
    subst (NamedFound only text) (ok_same (operators.Equal, read.0) x read.2) (
      sign.0 ++ (codes "==" ++ sign.1),
      (sign.0, sign.1, sign.2, sign.3, refl),
      sign.4,
    )

unequal_found : (text : List ℕ) (x : Operator × List ℕ)
    → (word_at (codes "!=") (without_blanks text) >>= λ rest. Ok (operators.Unequal, rest)) ≡ Ok x → NamedFound false text x
unequal_found text x h =
    let read = bind_ok {A = List ℕ} {B = Operator × List ℕ} (word_at (codes "!=") (without_blanks text))
    (λ rest. Ok (operators.Unequal, rest)) x h in
    let sign = signed (codes "!=") text read.0 read.1 in
    subst (NamedFound false text) (ok_same (operators.Unequal, read.0) x read.2) (
      sign.0 ++ (codes "!=" ++ sign.1),
      (sign.0, sign.1, sign.2, sign.3, refl),
      sign.4,
    )

contains_found : (text : List ℕ) (x : Operator × List ℕ)
    → (between_gaps (codes "contains") text >>= λ rest. Ok (operators.Contains, rest)) ≡ Ok x → NamedFound false text x
contains_found text x h =
    let read = bind_ok {A = List ℕ} {B = Operator × List ℕ} (between_gaps (codes "contains") text) (λ rest. Ok (operators.Contains, rest)) x
    h in
    let sign = spaced (codes "contains") text read.0 read.1 in
    let parts : text ≡ (sign.0 ++ (codes "contains" ++ sign.1)) ++ without_blanks read.0 =
    sign.4 ∙ sym (regroup sign.0 (codes "contains") sign.1 read.0)
    ∙ ap (λ (s : List ℕ). (sign.0 ++ (codes "contains" ++ sign.1)) ++ s) (sym sign.5) in
    subst (NamedFound false text) (ok_same (operators.Contains, read.0) x read.2) (
      sign.0 ++ (codes "contains" ++ sign.1),
      (sign.0, sign.1, sign.2, sign.3, refl),
      parts,
    )

-- an operator of anything but a file, where the text without blanks in front is given apart
abbrev other_at : List ℕ → List ℕ → Result (Operator × List ℕ) Fault
other_at text inner =
    cond (begins_so equals_sign inner) (word_at (codes "==") inner >>= λ rest. Ok (operators.Equal, rest))
    (cond (begins_so exclamation inner) (word_at (codes "!=") inner >>= λ rest. Ok (operators.Unequal, rest))
    (between_gaps (codes "contains") text >>= λ rest. Ok (operators.Contains, rest)))

other_found : (text : List ℕ) (x : Operator × List ℕ) → other_at text (without_blanks text) ≡ Ok x → NamedFound false text x
other_found text x h = by_cases (begins_so equals_sign (without_blanks text)) (begins_so exclamation (without_blanks text)) h
  where
    by_cases : (e u : Bool)
        → cond e (word_at (codes "==") (without_blanks text) >>= λ rest. Ok (operators.Equal, rest))
        (cond u (word_at (codes "!=") (without_blanks text) >>= λ rest. Ok (operators.Unequal, rest))
        (between_gaps (codes "contains") text >>= λ rest. Ok (operators.Contains, rest))) ≡ Ok x
        → NamedFound false text x
    by_cases true u k = equal_found false text x k
    by_cases false true k = unequal_found text x k
    by_cases false false k = contains_found text x k

named_found : (only : Bool) (text : List ℕ) (x : Operator × List ℕ) → named_operator_at only text ≡ Ok x → NamedFound only text x
unfolding named_operator_at
named_found false text x h = other_found text x h
named_found true text x h = equal_found true text x h

-- an operator is read again
abbrev pub OperatorAgain : Result (Operator × List ℕ) Fault → Operator → List ℕ → Type 0
OperatorAgain read operator tail = (rest : List ℕ) × (read ≡ Ok (operator, rest)) × (without_blanks rest ≡ without_blanks tail)

middle_bare : (middle before word after tail : List ℕ) → middle ≡ before ++ (word ++ after) → AreBlanks before
    → without_blanks (word ++ (after ++ tail)) ≡ word ++ (after ++ tail) → without_blanks (middle ++ tail) ≡ word ++ (after ++ tail)
middle_bare middle before word after tail e b stop = ap (λ (m : List ℕ). without_blanks (m ++ tail)) e
    ∙ bare_again before word after tail b stop

equal_bare : (more : List ℕ) → without_blanks (codes "==" ++ more) ≡ codes "==" ++ more
unfolding without_blanks
equal_bare more = refl

unequal_bare : (more : List ℕ) → without_blanks (codes "!=" ++ more) ≡ codes "!=" ++ more
unfolding without_blanks
unequal_bare more = refl

contains_bare : (more : List ℕ) → without_blanks (codes "contains" ++ more) ≡ codes "contains" ++ more
unfolding without_blanks
contains_bare more = refl

with_operator : Operator → Result (List ℕ) Fault → Result (Operator × List ℕ) Fault
with_operator operator read = read >>= λ rest. Ok (operator, rest)

other_again : (operator : Operator) (middle tail : List ℕ) → IsNamedOperator false operator middle
    → OperatorAgain (other_at (middle ++ tail) (without_blanks (middle ++ tail))) operator tail
unfolding with_operator
other_again operators.Equal middle tail h =
    let here = middle_bare middle h.0 (codes "==") h.1 tail h.4 h.2 (equal_bare (h.1 ++ tail)) in (
      h.1 ++ tail,
      ap (other_at (middle ++ tail)) here ∙ ap (with_operator operators.Equal) (word_again (codes "==") (h.1 ++ tail)),
      blanks_again h.1 tail h.3,
    )
other_again operators.Unequal middle tail h =
    let here = middle_bare middle h.0 (codes "!=") h.1 tail h.4 h.2 (unequal_bare (h.1 ++ tail)) in (
      h.1 ++ tail,
      ap (other_at (middle ++ tail)) here ∙ ap (with_operator operators.Unequal) (word_again (codes "!=") (h.1 ++ tail)),
      blanks_again h.1 tail h.3,
    )
other_again operators.Contains middle tail h =
    let here = middle_bare middle h.0 (codes "contains") h.1 tail h.4 h.2.0 (contains_bare (h.1 ++ tail)) in
    let text : middle ++ tail ≡ h.0 ++ (codes "contains" ++ (h.1 ++ tail)) =
    ap (λ (m : List ℕ). m ++ tail) h.4 ∙ regroup h.0 (codes "contains") h.1 tail in
    let read = ap (between_gaps (codes "contains")) text
    ∙ spaced_again (codes "contains") h.0 h.1 tail h.2 h.3 (contains_bare (h.1 ++ tail)) in
    (without_blanks tail, ap (other_at (middle ++ tail)) here ∙ ap (with_operator operators.Contains) read, bare tail)
other_again operators.Lacks middle tail h = absurd h
other_again operators.Begins middle tail h = absurd h
other_again operators.Like middle tail h = absurd h
other_again operators.Unlike middle tail h = absurd h

named_again : (only : Bool) (operator : Operator) (middle tail : List ℕ) → IsNamedOperator only operator middle
    → OperatorAgain (named_operator_at only (middle ++ tail)) operator tail
unfolding named_operator_at with_operator
named_again false operator middle tail h = other_again operator middle tail h
named_again true operators.Equal middle tail h =
    let here = middle_bare middle h.0 (codes "==") h.1 tail h.4 h.2 (equal_bare (h.1 ++ tail)) in (
      h.1 ++ tail,
      ap (λ (s : List ℕ). with_operator operators.Equal (word_at (codes "==") s)) here
          ∙ ap (with_operator operators.Equal) (word_again (codes "==") (h.1 ++ tail)),
      blanks_again h.1 tail h.3,
    )
named_again true operators.Unequal middle tail h = absurd h
named_again true operators.Contains middle tail h = absurd h
named_again true operators.Lacks middle tail h = absurd h
named_again true operators.Begins middle tail h = absurd h
named_again true operators.Like middle tail h = absurd h
named_again true operators.Unlike middle tail h = absurd h

-- two bytes, one behind the other, are a word
pub two_bytes : (a b : ℕ) (text first rest : List ℕ) → byte_at a text ≡ Ok first → byte_at b first ≡ Ok rest → word_at (a ∷ b ∷ []) text ≡ Ok rest
unfolding word_at
two_bytes a b text first rest h k = ap (λ r. r >>= word_at (b ∷ [])) h ∙ ap (λ r. r >>= word_at []) k

-- a letter in any case
letter_found : (b : ℕ) (text rest : List ℕ) → letter_at b text ≡ Ok rest → (t : ℕ) × (to_ascii_lowercase t ≡ b) × (text ≡ t ∷ rest)
unfolding letter_at
letter_found b [] rest h = absurd (cc)
letter_found b (t ∷ text) rest h =
    let both = guard_ok (nat_eq (to_ascii_lowercase t) b) text rest (Bad (length (t ∷ text))) h in
    (t, eqb-true (to_ascii_lowercase t) b both.0, ap (λ (s : List ℕ). t ∷ s) both.1)

letter_again : (t : ℕ) (tail : List ℕ) → letter_at (to_ascii_lowercase t) (t ∷ tail) ≡ Ok tail
unfolding letter_at
letter_again t tail =
    let same : nat_eq (to_ascii_lowercase t) (to_ascii_lowercase t) ≡ true = eq-eqb (to_ascii_lowercase t) (to_ascii_lowercase t) refl in
    rw same refl

letters_found : (word text rest : List ℕ) → letters_at word text ≡ Ok rest
    → (letters : List ℕ) × AreLetters word letters × (text ≡ letters ++ rest)
unfolding letters_at
letters_found [] text rest h = ([], refl, ok_same text rest h)
letters_found (b ∷ word) text rest h =
    let first = bind_ok (letter_at b text) (letters_at word) rest h in
    let letter = letter_found b text first.0 first.1 in
    let more = letters_found word first.0 rest first.2 in (
      letter.0 ∷ more.0,
      front_same (to_ascii_lowercase letter.0) b (map to_ascii_lowercase more.0) word letter.1 more.1,
      letter.2 ∙ ap (λ (s : List ℕ). letter.0 ∷ s) more.2,
    )
  where
    front_same : (a b : ℕ) (xs ys : List ℕ) → a ≡ b → xs ≡ ys → a ∷ xs ≡ b ∷ ys
    front_same a b xs ys e f = cc

lowered_again : (letters tail : List ℕ) → letters_at (map to_ascii_lowercase letters) (letters ++ tail) ≡ Ok tail
unfolding letters_at
lowered_again [] tail = refl
lowered_again (t ∷ letters) tail =
    ap (λ r. r >>= letters_at (map to_ascii_lowercase letters)) (letter_again t (letters ++ tail)) ∙ lowered_again letters tail

letters_again : (word letters tail : List ℕ) → AreLetters word letters → letters_at word (letters ++ tail) ≡ Ok tail
letters_again word letters tail h = ap (λ (w : List ℕ). letters_at w (letters ++ tail)) (sym h) ∙ lowered_again letters tail

-- an operator of the wide profile is read so
abbrev WideFound : List ℕ → Operator × List ℕ → Type 0
WideFound text x = (middle : List ℕ) × IsWideOperator x.0 middle × (text ≡ middle ++ without_blanks x.1)

-- an operator is read so
abbrev pub FoundOperator : Profile → Subject → List ℕ → Operator × List ℕ → Type 0
FoundOperator profile subject text x = (middle : List ℕ) × IsOperator profile subject x.0 middle × (text ≡ middle ++ without_blanks x.1)

sign_found : (operator : Operator) (a b : ℕ) (text first rest : List ℕ) (x : Operator × List ℕ)
    → ((middle : List ℕ) → IsSign (a ∷ b ∷ []) middle → IsWideOperator operator middle) → byte_at a (without_blanks text) ≡ Ok first
    → byte_at b first ≡ Ok rest → (operator, rest) ≡ x → WideFound text x
sign_found operator a b text first rest x is h k e =
    let sign = signed (a ∷ b ∷ []) text rest (two_bytes a b (without_blanks text) first rest h k) in
    let middle = sign.0 ++ ((a ∷ b ∷ []) ++ sign.1) in
    subst (WideFound text) e (middle, is middle (sign.0, sign.1, sign.2, sign.3, refl), sign.4)

-- a sign of two bytes, the first of which was read
second_found : (operator : Operator) (a b : ℕ) (text first : List ℕ) (x : Operator × List ℕ)
    → ((middle : List ℕ) → IsSign (a ∷ b ∷ []) middle → IsWideOperator operator middle) → byte_at a (without_blanks text) ≡ Ok first
    → (byte_at b first >>= λ rest. Ok (operator, rest)) ≡ Ok x → WideFound text x
second_found operator a b text first x is h k =
    let read = bind_ok {A = List ℕ} {B = Operator × List ℕ} (byte_at b first) (λ rest. Ok (operator, rest)) x k in
    sign_found operator a b text first read.0 x is h read.1 (ok_same (operator, read.0) x read.2)

-- the parts of a word and the blanks behind it
spaced_parts : (operator : Operator) (word text : List ℕ) (x : Operator × List ℕ) → spaced_word operator word text ≡ Ok x
    → (letters after rest : List ℕ) × AreLetters word letters × IsGap after × (text ≡ letters ++ (after ++ rest))
    × (without_blanks rest ≡ rest) × ((operator, rest) ≡ x)
spaced_parts operator word text x h =
    let first = bind_ok {A = List ℕ} {B = Operator × List ℕ} (letters_at word text) (λ behind. gap_at behind >>= λ rest. Ok (operator, rest))
    x h in
    let second = bind_ok {A = List ℕ} {B = Operator × List ℕ} (gap_at first.0) (λ rest. Ok (operator, rest)) x first.2 in
    let letters = letters_found word text first.0 first.1 in
    let gap = gap_found first.0 second.0 second.1 in (
      letters.0,
      gap.0,
      second.0,
      letters.1,
      gap.1,
      letters.2 ∙ ap (λ (s : List ℕ). letters.0 ++ s) gap.2,
      gap_bare first.0 second.0 second.1,
      ok_same (operator, second.0) x second.2,
    )

-- a word of its own
word_found_so : (operator : Operator) (word text inner : List ℕ) (x : Operator × List ℕ)
    → ((middle : List ℕ) → IsSpaced word middle → IsWideOperator operator middle) → gap_at text ≡ Ok inner
    → spaced_word operator word inner ≡ Ok x → WideFound text x
word_found_so operator word text inner x is h k =
    let before = gap_found text inner h in
    let parts = spaced_parts operator word inner x k in
    let middle = before.0 ++ (parts.0 ++ parts.1) in
    let whole : text ≡ middle ++ without_blanks parts.2 =
    before.2 ∙ ap (λ (s : List ℕ). before.0 ++ s) parts.5 ∙ sym (regroup before.0 parts.0 parts.1 parts.2)
    ∙ ap (λ (s : List ℕ). middle ++ s) (sym parts.6) in
    subst (WideFound text) parts.7 (middle, is middle (before.0, parts.0, parts.1, before.1, parts.3, parts.4, refl), whole)

-- a negated word
lacks_found : (text first : List ℕ) (x : Operator × List ℕ) → byte_at exclamation (without_blanks text) ≡ Ok first
    → spaced_word operators.Lacks (codes "contains") first ≡ Ok x → WideFound text x
lacks_found text first x h k =
    let blanks = blanks_found text in
    let parts = spaced_parts operators.Lacks (codes "contains") first x k in
    let middle = blanks.0 ++ (exclamation ∷ (parts.0 ++ parts.1)) in
    let inner : without_blanks text ≡ (exclamation ∷ (parts.0 ++ parts.1)) ++ parts.2 =
    byte_found exclamation (without_blanks text) first h ∙ ap (λ (s : List ℕ). exclamation ∷ s) (parts.5
    ∙ sym (append_assoc parts.0 parts.1 parts.2)) in
    let whole : text ≡ middle ++ without_blanks parts.2 =
    blanks.2 ∙ ap (λ (s : List ℕ). blanks.0 ++ s) inner ∙ sym (append_assoc blanks.0 (exclamation ∷ (parts.0 ++ parts.1)) parts.2)
    ∙ ap (λ (s : List ℕ). middle ++ s) (sym parts.6) in
    subst (WideFound text) parts.7 (middle, (blanks.0, parts.0, parts.1, blanks.1, parts.3, parts.4, refl), whole)

wide_found : (text : List ℕ) (x : Operator × List ℕ) → wide_operator_at text ≡ Ok x → WideFound text x
unfolding wide_operator_at
wide_found text x h = by_cases (begins_so equals_sign (without_blanks text)) (begins_so exclamation (without_blanks text)) h
  where
    behind_equals : (first : List ℕ) → byte_at equals_sign (without_blanks text) ≡ Ok first → (t : Bool)
        → cond t (byte_at tilde first >>= λ rest. Ok (operators.Like, rest)) (byte_at equals_sign first >>= λ rest. Ok (operators.Equal, rest))
        ≡ Ok x → WideFound text x
    behind_equals first e true k = second_found operators.Like 61 126 text first x (λ middle s. s) e k
    behind_equals first e false k = second_found operators.Equal 61 61 text first x (λ middle s. s) e k

    behind_exclamation : (first : List ℕ) → byte_at exclamation (without_blanks text) ≡ Ok first → (t q : Bool)
        → cond t (byte_at tilde first >>= λ rest. Ok (operators.Unlike, rest))
        (cond q (byte_at equals_sign first >>= λ rest. Ok (operators.Unequal, rest)) (spaced_word operators.Lacks (codes "contains") first))
        ≡ Ok x → WideFound text x
    behind_exclamation first e true q k = second_found operators.Unlike 33 126 text first x (λ middle s. s) e k
    behind_exclamation first e false true k = second_found operators.Unequal 33 61 text first x (λ middle s. s) e k
    behind_exclamation first e false false k = lacks_found text first x e k

    word_so : (inner : List ℕ) → gap_at text ≡ Ok inner → (w : Bool)
        → cond w (spaced_word operators.Begins (codes "starts_with") inner) (spaced_word operators.Contains (codes "contains") inner) ≡ Ok x
        → WideFound text x
    word_so inner e true k = word_found_so operators.Begins (codes "starts_with") text inner x (λ middle s. s) e k
    word_so inner e false k = word_found_so operators.Contains (codes "contains") text inner x (λ middle s. s) e k

    by_cases : (e u : Bool)
        → cond e (byte_at equals_sign (without_blanks text) >>= equal_at)
        (cond u (byte_at exclamation (without_blanks text) >>= negated_at) (gap_at text >>= word_operator_at)) ≡ Ok x → WideFound text x
    by_cases true u k =
        let first = bind_ok {A = List ℕ} {B = Operator × List ℕ} (byte_at equals_sign (without_blanks text)) equal_at x k in
        behind_equals first.0 first.1 (begins_so tilde first.0) first.2
    by_cases false true k =
        let first = bind_ok {A = List ℕ} {B = Operator × List ℕ} (byte_at exclamation (without_blanks text)) negated_at x k in
        behind_exclamation first.0 first.1 (begins_so tilde first.0) (begins_so equals_sign first.0) first.2
    by_cases false false k =
        let first = bind_ok {A = List ℕ} {B = Operator × List ℕ} (gap_at text) word_operator_at x k in
        word_so first.0 first.1 (begins_so 115 first.0 || begins_so 83 first.0) first.2

-- an operator of the wide profile, where the text without blanks in front is given apart
abbrev wide_at : List ℕ → List ℕ → Result (Operator × List ℕ) Fault
wide_at text inner =
    cond (begins_so equals_sign inner) (byte_at equals_sign inner >>= equal_at)
    (cond (begins_so exclamation inner) (byte_at exclamation inner >>= negated_at) (gap_at text >>= word_operator_at))

neither : {A : Type 0} (c d : Bool) (x y z : A) → c ≡ false → d ≡ false → cond c x (cond d y z) ≡ z
neither false false x y z e f = refl
neither true d x y z e f = absurd (cc)
neither false true x y z e f = absurd (cc)

-- a letter that is another one but for the case
lower_not : (l b c : ℕ) → to_ascii_lowercase l ≡ b → nat_eq b (to_ascii_lowercase c) ≡ false → nat_eq l c ≡ false
lower_not l b c e n = elim (cases_Bool (nat_eq l c)) [
  | inl t ↦ absurd (false≢true (sym n ∙ eq-eqb b (to_ascii_lowercase c) (sym e ∙ ap to_ascii_lowercase (eqb-true l c t))))
  | inr f ↦ f
]

s_either : (l : ℕ) → nat_eq (to_ascii_lowercase l) 115 ≡ (nat_eq l 115 || nat_eq l 83)
s_either l = elim (cases_lt l 116) [
  | inl small ↦ agree_below_at (λ n. nat_eq (to_ascii_lowercase n) 115) (λ n. nat_eq n 115 || nat_eq n 83) 116 l refl small
  | inr large ↦
      let high : nat_lt l 91 ≡ false = le-ltb l 91 (omega arith) in
      let low : nat_lt l 65 ≡ false = le-ltb l 65 (omega arith) in
      let one : nat_eq l 115 ≡ false = ne_eqb l 115 (omega arith) in
      let two : nat_eq l 83 ≡ false = ne_eqb l 83 (omega arith) in
      rw (low, high, one, two) refl
]

-- the first of the letters of a word, and what stands behind it
pub record BeginsWord (b : ℕ) (text : List ℕ) : Type 0 where
  pub letter : ℕ
  pub more : List ℕ
  pub parts : text ≡ letter ∷ more
  pub lower : to_ascii_lowercase letter ≡ b

first_letter : (b : ℕ) (word letters tail : List ℕ) → AreLetters (b ∷ word) letters → BeginsWord b (letters ++ tail)
first_letter b word [] tail h = absurd (cc)
first_letter b word (l ∷ letters) tail h = record { letter = l; more = letters ++ tail; parts = refl; lower = cc }

-- it is no blank and no sign
word_bare : (b : ℕ) (text : List ℕ) → ends_name b ≡ false → BeginsWord b text → without_blanks text ≡ text
word_bare b text e h =
    let starts : ends_name h.letter ≡ false = sym (lower_ends h.letter) ∙ ap ends_name h.lower ∙ e in
    subst (λ (s : List ℕ). without_blanks s ≡ s) (sym h.parts) (blanks_stop h.letter h.more (no_blank h.letter starts))

no_sign : (b c : ℕ) (text : List ℕ) → BeginsWord b text → nat_eq b (to_ascii_lowercase c) ≡ false → begins_so c text ≡ false
no_sign b c text h n = ap (begins_so c) h.parts ∙ lower_not h.letter b c h.lower n

spaced_word_again : (operator : Operator) (word letters after tail : List ℕ) → AreLetters word letters → IsGap after
    → spaced_word operator word (letters ++ (after ++ tail)) ≡ Ok (operator, without_blanks tail)
spaced_word_again operator word letters after tail h gap =
    ap (λ (r : Result (List ℕ) Fault). r >>= λ behind. gap_at behind >>= λ rest. Ok (operator, rest)) (letters_again word letters (after ++ tail) h)
    ∙ ap (λ (r : Result (List ℕ) Fault). r >>= λ rest. Ok (operator, rest)) (gap_again after tail gap)

-- a word of its own is read
word_again_so : (operator : Operator) (b : ℕ) (word before letters after tail : List ℕ) → ends_name b ≡ false
    → ((inner : List ℕ) → (begins_so 115 inner || begins_so 83 inner) ≡ nat_eq b 115
    → word_operator_at inner ≡ spaced_word operator (b ∷ word) inner)
    → IsGap before → AreLetters (b ∷ word) letters → IsGap after
    → wide_operator_at (before ++ (letters ++ (after ++ tail))) ≡ Ok (operator, without_blanks tail)
unfolding wide_operator_at
word_again_so operator b word before letters after tail e chosen gap h behind =
    let inner = letters ++ (after ++ tail) in
    let first = first_letter b word letters (after ++ tail) h in
    let starts : ends_name first.letter ≡ false = sym (lower_ends first.letter) ∙ ap ends_name first.lower ∙ e in
    let stop : without_blanks inner ≡ inner = word_bare b inner e first in
    let no_equals : begins_so equals_sign inner ≡ false = ap (begins_so equals_sign) first.parts ∙ no_byte equals_sign first.letter refl starts in
    let no_mark : begins_so exclamation inner ≡ false = ap (begins_so exclamation) first.parts ∙ no_byte exclamation first.letter refl starts in
    let read : gap_at (before ++ inner) ≡ Ok inner = gap_again before inner gap ∙ ap (λ (s : List ℕ). Ok s) stop in
    let is_s : (begins_so 115 inner || begins_so 83 inner) ≡ nat_eq b 115 =
    ap (λ (s : List ℕ). begins_so 115 s || begins_so 83 s) first.parts ∙ sym (s_either first.letter)
    ∙ ap (λ (n : ℕ). nat_eq n 115) first.lower in
    ap (wide_at (before ++ inner)) (blanks_again before inner gap.0 ∙ stop)
    ∙ neither (begins_so equals_sign inner) (begins_so exclamation inner) (byte_at equals_sign inner >>= equal_at)
    (byte_at exclamation inner >>= negated_at) (gap_at (before ++ inner) >>= word_operator_at) no_equals no_mark
    ∙ ap (λ (r : Result (List ℕ) Fault). r >>= word_operator_at) read ∙ chosen inner is_s
    ∙ spaced_word_again operator (b ∷ word) letters after tail h behind

-- a sign of two bytes
like_bare : (more : List ℕ) → without_blanks (codes "=~" ++ more) ≡ codes "=~" ++ more
unfolding without_blanks
like_bare more = refl

unlike_bare : (more : List ℕ) → without_blanks (codes "!~" ++ more) ≡ codes "!~" ++ more
unfolding without_blanks
unlike_bare more = refl

equal_read : (text rest : List ℕ) → wide_at text (codes "==" ++ rest) ≡ Ok (operators.Equal, rest)
unfolding byte_at
equal_read text rest = refl

like_read : (text rest : List ℕ) → wide_at text (codes "=~" ++ rest) ≡ Ok (operators.Like, rest)
unfolding byte_at
like_read text rest = refl

unequal_read : (text rest : List ℕ) → wide_at text (codes "!=" ++ rest) ≡ Ok (operators.Unequal, rest)
unfolding byte_at
unequal_read text rest = refl

unlike_read : (text rest : List ℕ) → wide_at text (codes "!~" ++ rest) ≡ Ok (operators.Unlike, rest)
unfolding byte_at
unlike_read text rest = refl

sign_again : (operator : Operator) (sign middle tail : List ℕ) → IsSign sign middle
    → ((more : List ℕ) → without_blanks (sign ++ more) ≡ sign ++ more)
    → ((text rest : List ℕ) → wide_at text (sign ++ rest) ≡ Ok (operator, rest))
    → OperatorAgain (wide_operator_at (middle ++ tail)) operator tail
unfolding wide_operator_at
sign_again operator sign middle tail h bare read =
    let here = middle_bare middle h.0 sign h.1 tail h.4 h.2 (bare (h.1 ++ tail)) in (
      h.1 ++ tail,
      ap (wide_at (middle ++ tail)) here ∙ read (middle ++ tail) (h.1 ++ tail),
      blanks_again h.1 tail h.3,
    )

spaced_sign_again : (operator : Operator) (b : ℕ) (word middle tail : List ℕ) → ends_name b ≡ false
    → ((inner : List ℕ) → (begins_so 115 inner || begins_so 83 inner) ≡ nat_eq b 115
    → word_operator_at inner ≡ spaced_word operator (b ∷ word) inner)
    → IsSpaced (b ∷ word) middle → OperatorAgain (wide_operator_at (middle ++ tail)) operator tail
spaced_sign_again operator b word middle tail e chosen h =
    let text : middle ++ tail ≡ h.0 ++ (h.1 ++ (h.2 ++ tail)) = ap (λ (m : List ℕ). m ++ tail) h.6 ∙ regroup h.0 h.1 h.2 tail in
    (without_blanks tail, ap wide_operator_at text ∙ word_again_so operator b word h.0 h.1 h.2 tail e chosen h.3 h.4 h.5, bare tail)

-- behind an exclamation mark
lacking_again : (text inner : List ℕ) → BeginsWord 99 inner
    → wide_at text (exclamation ∷ inner) ≡ spaced_word operators.Lacks (codes "contains") inner
unfolding byte_at
lacking_again text inner h =
    neither (begins_so tilde inner) (begins_so equals_sign inner) (byte_at tilde inner >>= λ rest. Ok (operators.Unlike, rest))
    (byte_at equals_sign inner >>= λ rest. Ok (operators.Unequal, rest)) (spaced_word operators.Lacks (codes "contains") inner)
    (no_sign 99 tilde inner h refl) (no_sign 99 equals_sign inner h refl)

-- what is spelled so is read so
wide_again : (operator : Operator) (middle tail : List ℕ) → IsWideOperator operator middle
    → OperatorAgain (wide_operator_at (middle ++ tail)) operator tail
unfolding wide_operator_at
wide_again operators.Equal middle tail h = sign_again operators.Equal (codes "==") middle tail h equal_bare equal_read
wide_again operators.Unequal middle tail h = sign_again operators.Unequal (codes "!=") middle tail h unequal_bare unequal_read
wide_again operators.Like middle tail h = sign_again operators.Like (codes "=~") middle tail h like_bare like_read
wide_again operators.Unlike middle tail h = sign_again operators.Unlike (codes "!~") middle tail h unlike_bare unlike_read
wide_again operators.Contains middle tail h =
    spaced_sign_again operators.Contains 99 (codes "ontains") middle tail refl (λ inner e. rw e refl) h
wide_again operators.Begins middle tail h =
    spaced_sign_again operators.Begins 115 (codes "tarts_with") middle tail refl (λ inner e. rw e refl) h
wide_again operators.Lacks middle tail h =
    let inner = h.1 ++ (h.2 ++ tail) in
    let text : middle ++ tail ≡ h.0 ++ (exclamation ∷ inner) =
    ap (λ (m : List ℕ). m ++ tail) h.6 ∙ append_assoc h.0 (exclamation ∷ (h.1 ++ h.2)) tail
    ∙ ap (λ (s : List ℕ). h.0 ++ (exclamation ∷ s)) (append_assoc h.1 h.2 tail) in
    let here : without_blanks (middle ++ tail) ≡ exclamation ∷ inner =
    ap without_blanks text ∙ blanks_again h.0 (exclamation ∷ inner) h.3 ∙ blanks_stop exclamation inner refl in (
      without_blanks tail,
      ap (wide_at (middle ++ tail)) here
          ∙ lacking_again (middle ++ tail) inner (first_letter 99 (codes "ontains") h.1 (h.2 ++ tail) h.4)
          ∙ spaced_word_again operators.Lacks (codes "contains") h.1 h.2 tail h.4 h.5,
      bare tail,
    )

-- how a format is compared is read so
equal_stars : (rest : List ℕ) → stars_at (codes "==" ++ rest) ≡ Ok (false, rest)
unfolding stars_at byte_at
equal_stars rest = refl

like_stars : (rest : List ℕ) → stars_at (codes "=~" ++ rest) ≡ Ok (true, rest)
unfolding stars_at byte_at
like_stars rest = refl

abbrev pub StarsAgain : Bool → List ℕ → List ℕ → Type 0
StarsAgain stars middle tail =
    (rest : List ℕ) × (stars_at (without_blanks (middle ++ tail)) ≡ Ok (stars, rest)) × (without_blanks rest ≡ without_blanks tail)

pub stars_again : (stars : Bool) (middle tail : List ℕ) → IsFormatSign stars middle → StarsAgain stars middle tail
stars_again true middle tail h =
    let here = middle_bare middle h.0 (codes "=~") h.1 tail h.4 h.2 (like_bare (h.1 ++ tail)) in
    (h.1 ++ tail, ap stars_at here ∙ like_stars (h.1 ++ tail), blanks_again h.1 tail h.3)
stars_again false middle tail h =
    let here = middle_bare middle h.0 (codes "==") h.1 tail h.4 h.2 (equal_bare (h.1 ++ tail)) in
    (h.1 ++ tail, ap stars_at here ∙ equal_stars (h.1 ++ tail), blanks_again h.1 tail h.3)

pub operator_found : (profile : Profile) (subject : Subject) (text : List ℕ) (x : Operator × List ℕ) → operator_at profile subject text ≡ Ok x
    → FoundOperator profile subject text x
unfolding operator_at
operator_found Named subject text x h = named_found (is_file subject) text x h
operator_found Wide subject text x h = wide_found text x h

pub operator_again : (profile : Profile) (subject : Subject) (operator : Operator) (middle tail : List ℕ)
    → IsOperator profile subject operator middle → OperatorAgain (operator_at profile subject (middle ++ tail)) operator tail
unfolding operator_at
operator_again Named subject operator middle tail h = named_again (is_file subject) operator middle tail h
operator_again Wide subject operator middle tail h = wide_again operator middle tail h

-- a name ends in front of an operator
middle_ends : (middle before word after tail : List ℕ) → middle ≡ before ++ (word ++ after) → EndsName (before ++ ((word ++ after) ++ tail))
    → EndsName (middle ++ tail)
middle_ends middle before word after tail e h =
    subst (λ (m : List ℕ). EndsName (m ++ tail)) (sym e) (subst EndsName (sym (append_assoc before (word ++ after) tail)) h)

gap_ends : (gap tail : List ℕ) → IsGap gap → EndsName (gap ++ tail)
gap_ends [] tail h = absurd (omega (arith, h.1))
gap_ends (b ∷ gap) tail h = blank_ends b (and_parts (is_blank b) (list_all is_blank gap) h.0).0

any_ends : (operator : Operator) (middle tail : List ℕ) → IsNamedOperator false operator middle → EndsName (middle ++ tail)
any_ends operators.Equal middle tail h =
    middle_ends middle h.0 (codes "==") h.1 tail h.4 (ends_blanks h.0 ((codes "==" ++ h.1) ++ tail) h.2 refl)
any_ends operators.Unequal middle tail h =
    middle_ends middle h.0 (codes "!=") h.1 tail h.4 (ends_blanks h.0 ((codes "!=" ++ h.1) ++ tail) h.2 refl)
any_ends operators.Contains middle tail h =
    middle_ends middle h.0 (codes "contains") h.1 tail h.4 (gap_ends h.0 ((codes "contains" ++ h.1) ++ tail) h.2)
any_ends operators.Lacks middle tail h = absurd h
any_ends operators.Begins middle tail h = absurd h
any_ends operators.Like middle tail h = absurd h
any_ends operators.Unlike middle tail h = absurd h

named_ends : (only : Bool) (operator : Operator) (middle tail : List ℕ) → IsNamedOperator only operator middle
    → EndsName (middle ++ tail)
named_ends false operator middle tail h = any_ends operator middle tail h
named_ends true operators.Equal middle tail h = any_ends operators.Equal middle tail h
named_ends true operators.Unequal middle tail h = absurd h
named_ends true operators.Contains middle tail h = absurd h
named_ends true operators.Lacks middle tail h = absurd h
named_ends true operators.Begins middle tail h = absurd h
named_ends true operators.Like middle tail h = absurd h
named_ends true operators.Unlike middle tail h = absurd h

pub sign_ends : (a b : ℕ) (middle tail : List ℕ) → ends_name a ≡ true → IsSign (a ∷ b ∷ []) middle → EndsName (middle ++ tail)
sign_ends a b middle tail e h =
    middle_ends middle h.0 (a ∷ b ∷ []) h.1 tail h.4 (ends_blanks h.0 (((a ∷ b ∷ []) ++ h.1) ++ tail) h.2 e)

spaced_ends : (word middle tail : List ℕ) → IsSpaced word middle → EndsName (middle ++ tail)
spaced_ends word middle tail h = middle_ends middle h.0 h.1 h.2 tail h.6 (gap_ends h.0 ((h.1 ++ h.2) ++ tail) h.3)

wide_ends : (operator : Operator) (middle tail : List ℕ) → IsWideOperator operator middle → EndsName (middle ++ tail)
wide_ends operators.Equal middle tail h = sign_ends 61 61 middle tail refl h
wide_ends operators.Unequal middle tail h = sign_ends 33 61 middle tail refl h
wide_ends operators.Like middle tail h = sign_ends 61 126 middle tail refl h
wide_ends operators.Unlike middle tail h = sign_ends 33 126 middle tail refl h
wide_ends operators.Contains middle tail h = spaced_ends (codes "contains") middle tail h
wide_ends operators.Begins middle tail h = spaced_ends (codes "starts_with") middle tail h
wide_ends operators.Lacks middle tail h =
    middle_ends middle h.0 (exclamation ∷ h.1) h.2 tail h.6 (ends_blanks h.0 (((exclamation ∷ h.1) ++ h.2) ++ tail) h.3 refl)

pub operator_ends : (profile : Profile) (subject : Subject) (operator : Operator) (middle tail : List ℕ)
    → IsOperator profile subject operator middle → EndsName (middle ++ tail)
operator_ends Named subject operator middle tail h = named_ends (is_file subject) operator middle tail h
operator_ends Wide subject operator middle tail h = wide_ends operator middle tail h
