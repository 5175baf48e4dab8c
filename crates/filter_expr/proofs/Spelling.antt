-- What is spelled is read, whatever stands behind.
use Rattle.std.proofs.Common.{◌≡◌, inl, inr, ℕ, Bool, true, false, List, ◌∷◌, ◌++◌, length, Result, Ok, Option, Some, refl, sym, ap, ◌∙◌, subst, append_assoc}
use Rattle.profile.specs.declared.profile.Profile.{Profile}
use Rattle.filter_expr.specs.declared.name.Key.{Key}
use Rattle.filter_expr.specs.declared.name.Key.TheVariants as keys
use Rattle.filter_expr.specs.declared.operator.Operator.{Operator}
use Rattle.filter_expr.specs.declared.subject.Subject.{Subject}
use Rattle.filter_expr.specs.Grammar.{AreBlanks, IsFormatSign, IsOperator, SpellsValue, SpellsNegation}
use Rattle.filter_expr.specs.Formats.{format_in}
use Rattle.filter_expr.specs.declared.subject.AudioFormat.{AudioFormat}
use Rattle.filter_expr.specs.Names.{key_named}
use Rattle.filter_expr.specs.Parts.{Fault, ◌>>=◌, opening, closing, exclamation, ends_name, begins_so, without_blanks, byte_at, value_at}
use Rattle.filter_expr.specs.Reading.{Reader, is_good_value, tested, format_of, since_of, test_tree, test_of, closed, test_at, negation_at, inside_at}
use Rattle.filter_expr.specs.Times.{time_in}
use Rattle.filter_expr.specs.Tree.{Tree}
use Rattle.filter_expr.specs.Tree.Tree.{Base, Since, Format, Not}
use Rattle.filter_expr.proofs.Comparisons.{regroup, sign_ends, stars_again, operator_again, operator_ends}
use Rattle.filter_expr.proofs.Enclosing.{SpellsSimple}
use Rattle.filter_expr.proofs.Expressions.{inside_negation, inside_test}
use Rattle.filter_expr.proofs.Keys.{EndsName, ends_blanks, name_starts, no_blank, no_byte, key_again}
use Rattle.filter_expr.proofs.Pieces.{byte_again, blanks_again, blanks_stop, value_again, value_bare, quote_ends}

pub closed_again : (tree : Tree) (after rest : List ℕ) → AreBlanks after → closed (tree, after ++ closing ∷ rest) ≡ Ok (tree, rest)
unfolding closed
closed_again tree after rest h =
    ap (λ (s : List ℕ). byte_at closing s >>= λ behind. Ok (tree, behind))
    (blanks_again after (closing ∷ rest) h ∙ blanks_stop closing rest refl)
    ∙ ap (λ (r : Result (List ℕ) Fault). r >>= λ behind. Ok (tree, behind)) (byte_again closing rest)

value_ends : (spelling value tail : List ℕ) → SpellsValue spelling value → EndsName (spelling ++ tail)
value_ends spelling value tail h = subst (λ (s : List ℕ). EndsName (s ++ tail)) (sym h.parts) (quote_ends h.quote h.a_quote)

base_again : (profile : Profile) (gap quoted value tail : List ℕ) → AreBlanks gap → SpellsValue quoted value
    → test_of profile keys.Base (gap ++ (quoted ++ tail)) ≡ Ok (Base value, tail)
unfolding test_of
base_again profile gap quoted value tail blanks spelled =
    let here = blanks_again gap (quoted ++ tail) blanks ∙ value_bare quoted value tail spelled in
    let read = ap value_at here ∙ value_again quoted value tail spelled in
    ap (λ (r : Result (List ℕ × List ℕ) Fault). r >>= λ v. Ok (Base v.0, v.1)) read

since_again : (profile : Profile) (gap quoted value tail : List ℕ) (time : ℕ) → AreBlanks gap → SpellsValue quoted value → time_in value ≡ Some time
    → test_of profile keys.Since (gap ++ (quoted ++ tail)) ≡ Ok (Since time, tail)
unfolding test_of
since_again profile gap quoted value tail time blanks spelled is =
    let text = gap ++ (quoted ++ tail) in
    let here = blanks_again gap (quoted ++ tail) blanks ∙ value_bare quoted value tail spelled in
    let read = ap value_at here ∙ value_again quoted value tail spelled in
    ap (λ (r : Result (List ℕ × List ℕ) Fault). r >>= λ v. since_of (time_in v.0) (length (without_blanks text)) v.1) read
    ∙ ap (λ (t : Option ℕ). since_of t (length (without_blanks text)) tail) is

compared_again : (profile : Profile) (subject : Subject) (operator : Operator) (middle quoted value tail : List ℕ)
    → IsOperator profile subject operator middle → is_good_value operator value ≡ true → SpellsValue quoted value
    → test_of profile (keys.Of subject) (middle ++ (quoted ++ tail)) ≡ Ok (test_tree subject operator value, tail)
unfolding test_of
compared_again profile subject operator middle quoted value tail compared good spelled =
    let sign = operator_again profile subject operator middle (quoted ++ tail) compared in
    let left = length (without_blanks sign.0) in
    let read = ap value_at (sign.2 ∙ value_bare quoted value tail spelled) ∙ value_again quoted value tail spelled in
    ap (λ (r : Result (Operator × List ℕ) Fault). r >>= λ o. value_at (without_blanks o.1)
    >>= λ v. tested subject o.0 v.0 (length (without_blanks o.1)) >>= λ tree. Ok (tree, v.1)) sign.1
    ∙ ap (λ (r : Result (List ℕ × List ℕ) Fault). r >>= λ v. tested subject operator v.0 left >>= λ tree. Ok (tree, v.1)) read
    ∙ rw good refl

format_again : (profile : Profile) (stars : Bool) (middle quoted value tail : List ℕ) (format : AudioFormat) → IsFormatSign stars middle
    → SpellsValue quoted value → format_in stars value ≡ Some format
    → test_of profile keys.Format (middle ++ (quoted ++ tail)) ≡ Ok (Format format, tail)
unfolding test_of
format_again profile stars middle quoted value tail format compared spelled is =
    let sign = stars_again stars middle (quoted ++ tail) compared in
    let left = length (without_blanks sign.0) in
    let read = ap value_at (sign.2 ∙ value_bare quoted value tail spelled) ∙ value_again quoted value tail spelled in
    ap (λ (r : Result (Bool × List ℕ) Fault). r >>= λ o. value_at (without_blanks o.1)
    >>= λ v. format_of (format_in o.0 v.0) (length (without_blanks o.1)) v.1) sign.1
    ∙ ap (λ (r : Result (List ℕ × List ℕ) Fault). r >>= λ v. format_of (format_in stars v.0) left v.1) read
    ∙ ap (λ (f : Option AudioFormat). format_of f left tail) is

-- a name ends in front of how a format is compared
format_ends : (stars : Bool) (middle tail : List ℕ) → IsFormatSign stars middle → EndsName (middle ++ tail)
format_ends true middle tail h = sign_ends 61 126 middle tail refl h
format_ends false middle tail h = sign_ends 61 61 middle tail refl h

named_again : (profile : Profile) (name behind : List ℕ) (key : Key) (x : Tree × List ℕ) → key_named profile name ≡ Some key → EndsName behind
    → test_of profile key behind ≡ Ok x → test_at profile (name ++ behind) ≡ closed x
unfolding test_at
named_again profile name behind key x named ends h =
    ap (λ (r : Result (Key × List ℕ) Fault). r >>= λ k. test_of profile k.0 k.1 >>= closed) (key_again profile name behind key named ends)
    ∙ ap (λ (r : Result (Tree × List ℕ) Fault). r >>= closed) h

simple_again : (profile : Profile) (tree : Tree) (front tail : List ℕ) → SpellsSimple profile tree front
    → test_at profile (front ++ tail) ≡ closed (tree, tail)
simple_again profile tree front tail (inl h) =
    let read = base_again profile h.gap h.quoted h.value tail h.blanks h.spelled in
    let ends = ends_blanks h.gap (h.quoted ++ tail) h.blanks (value_ends h.quoted h.value tail h.spelled) in
    ap (λ (s : List ℕ). test_at profile (s ++ tail)) h.parts ∙ ap (test_at profile) (regroup h.name h.gap h.quoted tail)
    ∙ named_again profile h.name (h.gap ++ (h.quoted ++ tail)) keys.Base (Base h.value, tail) h.named ends read
    ∙ ap (λ (t : Tree). closed (t, tail)) (sym h.says)
simple_again profile tree front tail (inr (inl h)) =
    let read = since_again profile h.gap h.quoted h.value tail h.time h.blanks h.spelled h.read in
    let ends = ends_blanks h.gap (h.quoted ++ tail) h.blanks (value_ends h.quoted h.value tail h.spelled) in
    ap (λ (s : List ℕ). test_at profile (s ++ tail)) h.parts ∙ ap (test_at profile) (regroup h.name h.gap h.quoted tail)
    ∙ named_again profile h.name (h.gap ++ (h.quoted ++ tail)) keys.Since (Since h.time, tail) h.named ends read
    ∙ ap (λ (t : Tree). closed (t, tail)) (sym h.says)
simple_again profile tree front tail (inr (inr (inl h))) =
    let read = format_again profile h.stars h.middle h.quoted h.value tail h.format h.compared h.spelled h.read in
    let ends = format_ends h.stars h.middle (h.quoted ++ tail) h.compared in
    ap (λ (s : List ℕ). test_at profile (s ++ tail)) h.parts ∙ ap (test_at profile) (regroup h.name h.middle h.quoted tail)
    ∙ named_again profile h.name (h.middle ++ (h.quoted ++ tail)) keys.Format (Format h.format, tail) h.named ends read
    ∙ ap (λ (t : Tree). closed (t, tail)) (sym h.says)
simple_again profile tree front tail (inr (inr (inr h))) =
    let read = compared_again profile h.subject h.operator h.middle h.quoted h.value tail h.compared h.good h.spelled in
    let ends = operator_ends profile h.subject h.operator h.middle (h.quoted ++ tail) h.compared in
    ap (λ (s : List ℕ). test_at profile (s ++ tail)) h.parts ∙ ap (test_at profile) (regroup h.name h.middle h.quoted tail)
    ∙ named_again profile h.name (h.middle ++ (h.quoted ++ tail)) (keys.Of h.subject) (test_tree h.subject h.operator h.value, tail) h.named ends
    read ∙ ap (λ (t : Tree). closed (t, tail)) (sym h.says)

-- a test begins with no blank, parenthesis or exclamation mark
abbrev StartsName : List ℕ → Type 0
StartsName text = (b : ℕ) × (more : List ℕ) × (text ≡ b ∷ more) × (ends_name b ≡ false)

starts_longer : (name front behind : List ℕ) → front ≡ name ++ behind → StartsName name → StartsName front
starts_longer name front behind e h = (h.0, h.1 ++ behind, e ∙ ap (λ (s : List ℕ). s ++ behind) h.2, h.3)

simple_starts : (profile : Profile) (tree : Tree) (front : List ℕ) → SpellsSimple profile tree front → StartsName front
simple_starts profile tree front (inl h) = starts_longer h.name front (h.gap ++ h.quoted) h.parts (name_starts profile h.name keys.Base h.named)
simple_starts profile tree front (inr (inl h)) = starts_longer h.name front (h.gap ++ h.quoted) h.parts
    (name_starts profile h.name keys.Since h.named)
simple_starts profile tree front (inr (inr (inl h))) = starts_longer h.name front (h.middle ++ h.quoted) h.parts
    (name_starts profile h.name keys.Format h.named)
simple_starts profile tree front (inr (inr (inr h))) = starts_longer h.name front (h.middle ++ h.quoted) h.parts
    (name_starts profile h.name (keys.Of h.subject) h.named)

-- it stands behind an opening parenthesis and no blank, and is read up to what stands behind it
abbrev pub ReadInside : Profile → Reader → Tree → List ℕ → List ℕ → Type 0
ReadInside profile read tree text tail = (without_blanks text ≡ text) × (inside_at profile read text ≡ closed (tree, tail))

pub bare_from : (b : ℕ) (text more : List ℕ) → text ≡ b ∷ more → without_blanks (b ∷ more) ≡ b ∷ more → without_blanks text ≡ text
bare_from b text more e h = subst (λ (s : List ℕ). without_blanks s ≡ s) (sym e) h

pub simple_inside : (profile : Profile) (read : Reader) (tree : Tree) (front tail : List ℕ) → SpellsSimple profile tree front
    → ReadInside profile read tree (front ++ tail) tail
simple_inside profile read tree front tail h =
    let start = simple_starts profile tree front h in
    let text : front ++ tail ≡ start.0 ∷ (start.1 ++ tail) = ap (λ (s : List ℕ). s ++ tail) start.2 in (
      bare_from start.0 (front ++ tail) (start.1 ++ tail) text (blanks_stop start.0 (start.1 ++ tail) (no_blank start.0 start.3)),
      inside_test profile read (front ++ tail) (ap (begins_so opening) text ∙ no_byte opening start.0 refl start.3)
          (ap (begins_so exclamation) text ∙ no_byte exclamation start.0 refl start.3)
          ∙ simple_again profile tree front tail h,
    )

-- what is spelled inside is read, and begins with a parenthesis
abbrev pub IsComplete : Reader → (Tree → List ℕ → Type 0) → Type 0
IsComplete read spells = (tree : Tree) (front rest : List ℕ) → spells tree front → read (front ++ rest) ≡ Ok (tree, rest)

abbrev pub Opens : (Tree → List ℕ → Type 0) → Type 0
Opens spells = (tree : Tree) (front : List ℕ) → spells tree front → (more : List ℕ) × (front ≡ opening ∷ more)

pub opened_bare : (spells : Tree → List ℕ → Type 0) → Opens spells → (tree : Tree) (front tail : List ℕ) → spells tree front
    → without_blanks (front ++ tail) ≡ front ++ tail
opened_bare spells opens tree front tail h =
    let start = opens tree front h in
    bare_from opening (front ++ tail) (start.0 ++ tail) (ap (λ (s : List ℕ). s ++ tail) start.1)
    (blanks_stop opening (start.0 ++ tail) refl)

negated_again : (read : Reader) (inner : Tree) (gap spelling tail : List ℕ) → AreBlanks gap
    → without_blanks (spelling ++ tail) ≡ spelling ++ tail → read (spelling ++ tail) ≡ Ok (inner, tail)
    → negation_at read (exclamation ∷ (gap ++ (spelling ++ tail))) ≡ closed (Not inner, tail)
unfolding negation_at
negated_again read inner gap spelling tail blanks stop h =
    ap (λ (r : Result (List ℕ) Fault). r >>= λ s. read (without_blanks s) >>= λ y. closed (Not y.0, y.1))
    (byte_again exclamation (gap ++ (spelling ++ tail)))
    ∙ ap (λ (r : Result (Tree × List ℕ) Fault). r >>= λ y. closed (Not y.0, y.1))
    (ap read (blanks_again gap (spelling ++ tail) blanks ∙ stop) ∙ h)

pub negation_inside : (profile : Profile) (read : Reader) (spells : Tree → List ℕ → Type 0) → IsComplete read spells → Opens spells
    → (tree : Tree) (front tail : List ℕ) → SpellsNegation spells tree front
    → ReadInside profile read tree (front ++ tail) tail
negation_inside profile read spells complete opens tree front tail h =
    let text : front ++ tail ≡ exclamation ∷ (h.gap ++ (h.spelling ++ tail)) =
    ap (λ (s : List ℕ). s ++ tail) h.parts ∙ ap (λ (s : List ℕ). exclamation ∷ s) (append_assoc h.gap h.spelling tail) in
    let stop = opened_bare spells opens h.inner h.spelling tail h.spelled in
    let again = negated_again read h.inner h.gap h.spelling tail h.blanks stop (complete h.inner h.spelling tail h.spelled) in (
      bare_from exclamation (front ++ tail) (h.gap ++ (h.spelling ++ tail)) text
          (blanks_stop exclamation (h.gap ++ (h.spelling ++ tail)) refl),
      inside_negation profile read (front ++ tail) (ap (begins_so opening) text) (ap (begins_so exclamation) text) ∙ ap (negation_at read) text
          ∙ again ∙ ap (λ (t : Tree). closed (t, tail)) (sym h.says),
    )
