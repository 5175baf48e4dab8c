-- What stands between parentheses, as it is read.
use Rattle.std.proofs.Common.{◌≡◌, ◌⊎◌, inl, inr, ℕ, zero, suc, Bool, true, false, cond, List, [], ◌∷◌, ◌++◌, length, Result, Ok, Err, Option}
use Rattle.std.proofs.Common.{Some, None, refl, sym, ap, ◌∙◌, subst, append_assoc}
use Rattle.std.proofs.lemmas.List.{append-nil}
use Rattle.std.specs.Prelude.{codes}
use Rattle.profile.specs.declared.profile.Profile.{Profile}
use Rattle.profile.specs.declared.profile.Profile.TheVariants.{Named, Wide}
use Rattle.filter_expr.specs.declared.name.Key.{Key}
use Rattle.filter_expr.specs.declared.name.Key.TheVariants as keys
use Rattle.filter_expr.specs.declared.operator.Operator.{Operator}
use Rattle.filter_expr.specs.Grammar.{AreBlanks, SpellsBase, SpellsSince, SpellsFormat, SpellsTest, SpellsWord, SpellsNegation, SpellsGroup, SpellsInside, Spells}
use Rattle.filter_expr.specs.declared.subject.AudioFormat.{AudioFormat}
use Rattle.filter_expr.specs.Formats.{format_in}
use Rattle.filter_expr.specs.Grammar.{IsSign, IsFormatSign}
use Rattle.filter_expr.specs.Names.{key_named}
use Rattle.filter_expr.specs.Parts.{Fault, ◌>>=◌, opening, closing, exclamation, equals_sign, tilde, begins_so, without_blanks, byte_at, between_gaps, key_at}
use Rattle.filter_expr.specs.Parts.{value_at}
use Rattle.filter_expr.specs.Parts.Fault.{Bad, Deep}
use Rattle.filter_expr.specs.Reading.{Reader, operator_at, is_good_value, tested, stars_at, format_of, since_of, test_tree, test_of, closed, test_at, negation_at, others_at, group_at, inside_at}
use Rattle.filter_expr.specs.Reading.{expression_at, is_nil, alone, trimmed, most_open, whole}
use Rattle.filter_expr.specs.Times.{time_in}
use Rattle.filter_expr.specs.Tree.{Tree}
use Rattle.filter_expr.specs.Tree.Tree.{Base, Since, Format, Not, And}
use Rattle.filter_expr.proofs.Comparisons.{regroup, signed, spaced, two_bytes, operator_found}
use Rattle.filter_expr.proofs.Keys.{key_found_so}
use Rattle.filter_expr.proofs.Pieces.{bind_ok, guard_ok, ok_same, byte_found, blanks_found, value_found}

-- spelled in front
abbrev pub FoundBy : (Tree → List ℕ → Type 0) → List ℕ → Tree × List ℕ → Type 0
FoundBy spells text x = (front : List ℕ) × spells x.0 front × (text ≡ front ++ x.1)

-- spelled in front of blanks and the closing parenthesis
abbrev pub FoundClosed : (Tree → List ℕ → Type 0) → List ℕ → Tree × List ℕ → Type 0
FoundClosed spells text x = (front after : List ℕ) × spells x.0 front × AreBlanks after × (text ≡ front ++ (after ++ closing ∷ x.1))

closed_found : (spells : Tree → List ℕ → Type 0) (text : List ℕ) (y x : Tree × List ℕ) → FoundBy spells text y → closed y ≡ Ok x
    → FoundClosed spells text x
unfolding closed
closed_found spells text y x found h =
    let read = bind_ok {A = List ℕ} {B = Tree × List ℕ} (byte_at closing (without_blanks y.1)) (λ rest. Ok (y.0, rest)) x h in
    let blanks = blanks_found y.1 in
    let behind : y.1 ≡ blanks.0 ++ closing ∷ read.0 =
    blanks.2 ∙ ap (λ (s : List ℕ). blanks.0 ++ s) (byte_found closing (without_blanks y.1) read.0 read.1) in
    subst (FoundClosed spells text) (ok_same (y.0, read.0) x read.2) (
      found.0,
      blanks.0,
      found.1,
      blanks.1,
      found.2 ∙ ap (λ (s : List ℕ). found.0 ++ s) behind,
    )

wider : (these those : Tree → List ℕ → Type 0) (text : List ℕ) (x : Tree × List ℕ)
    → ((tree : Tree) (front : List ℕ) → these tree front → those tree front) → FoundClosed these text x → FoundClosed those text x
wider these those text x f found = (found.0, found.1, f x.0 found.0 found.2, found.3, found.4)

-- a test, `base V` or `modified-since V`
abbrev pub SpellsSimple : Profile → Tree → List ℕ → Type 0
SpellsSimple profile tree text =
    SpellsBase profile tree text ⊎ (SpellsSince profile tree text ⊎ (SpellsFormat profile tree text ⊎ SpellsTest profile tree text))

-- a time that was read
since_found : (read : Option ℕ) (left : ℕ) (rest : List ℕ) (x : Tree × List ℕ) → since_of read left rest ≡ Ok x
    → (time : ℕ) × (read ≡ Some time) × ((Since time, rest) ≡ x)
since_found None left rest x h = absurd (cc)
since_found (Some time) left rest x h = (time, refl, ok_same (Since time, rest) x h)

-- a format that was read
format_found : (read : Option AudioFormat) (left : ℕ) (rest : List ℕ) (x : Tree × List ℕ) → format_of read left rest ≡ Ok x
    → (format : AudioFormat) × (read ≡ Some format) × ((Format format, rest) ≡ x)
format_found None left rest x h = absurd (cc)
format_found (Some format) left rest x h = (format, refl, ok_same (Format format, rest) x h)

-- how it is compared
stars_found : (text : List ℕ) (x : Bool × List ℕ) → stars_at (without_blanks text) ≡ Ok x
    → (middle : List ℕ) × IsFormatSign x.0 middle × (text ≡ middle ++ without_blanks x.1)
unfolding stars_at
stars_found text x h =
    let first = bind_ok {A = List ℕ} {B = Bool × List ℕ} (byte_at equals_sign (without_blanks text))
    (λ behind. cond (begins_so tilde behind) (byte_at tilde behind >>= λ rest. Ok (true, rest))
    (byte_at equals_sign behind >>= λ rest. Ok (false, rest))) x h in
    by_cases first.0 first.1 (begins_so tilde first.0) first.2
  where
    of_sign : (stars : Bool) (b : ℕ) (first : List ℕ) → ((middle : List ℕ) → IsSign (equals_sign ∷ b ∷ []) middle → IsFormatSign stars middle)
        → byte_at equals_sign (without_blanks text) ≡ Ok first → (byte_at b first >>= λ rest. Ok (stars, rest)) ≡ Ok x
        → (middle : List ℕ) × IsFormatSign x.0 middle × (text ≡ middle ++ without_blanks x.1)
    of_sign stars b first is e k =
        let read = bind_ok {A = List ℕ} {B = Bool × List ℕ} (byte_at b first) (λ rest. Ok (stars, rest)) x k in
        let sign = signed (equals_sign ∷ b ∷ []) text read.0 (two_bytes equals_sign b (without_blanks text) first read.0 e read.1) in
        let middle = sign.0 ++ ((equals_sign ∷ b ∷ []) ++ sign.1) in
        subst (λ (y : Bool × List ℕ). (m : List ℕ) × IsFormatSign y.0 m × (text ≡ m ++ without_blanks y.1)) (ok_same (stars, read.0) x read.2)
        (middle, is middle (sign.0, sign.1, sign.2, sign.3, refl), sign.4)

    by_cases : (first : List ℕ) → byte_at equals_sign (without_blanks text) ≡ Ok first → (t : Bool)
        → cond t (byte_at tilde first >>= λ rest. Ok (true, rest)) (byte_at equals_sign first >>= λ rest. Ok (false, rest)) ≡ Ok x
        → (middle : List ℕ) × IsFormatSign x.0 middle × (text ≡ middle ++ without_blanks x.1)
    by_cases first e true k = of_sign true tilde first (λ middle s. s) e k
    by_cases first e false k = of_sign false equals_sign first (λ middle s. s) e k

glued : (name behind middle inner quoted rest : List ℕ) → behind ≡ middle ++ inner → inner ≡ quoted ++ rest
    → name ++ behind ≡ (name ++ (middle ++ quoted)) ++ rest
glued name behind middle inner quoted rest e f =
    ap (λ (s : List ℕ). name ++ s) (e ∙ ap (λ (s : List ℕ). middle ++ s) f) ∙ sym (regroup name middle quoted rest)

named_found : (profile : Profile) (name : List ℕ) (key : Key) (behind : List ℕ) (x : Tree × List ℕ) → key_named profile name ≡ Some key
    → test_of profile key behind ≡ Ok x → FoundBy (SpellsSimple profile) (name ++ behind) x
unfolding test_of
named_found profile name keys.Base behind x named h =
    let read = bind_ok {A = List ℕ × List ℕ} {B = Tree × List ℕ} (value_at (without_blanks behind)) (λ value. Ok (Base value.0, value.1)) x
    h in
    let blanks = blanks_found behind in
    let value = value_found (without_blanks behind) read.0.0 read.0.1 read.1 in
    subst (FoundBy (SpellsSimple profile) (name ++ behind)) (ok_same (Base read.0.0, read.0.1) x read.2) (
      name ++ (blanks.0 ++ value.0),
      inl (record {
        name = name;
        gap = blanks.0;
        quoted = value.0;
        value = read.0.0;
        named = named;
        blanks = blanks.1;
        spelled = value.1;
        parts = refl;
        says = refl;
      }),
      glued name behind blanks.0 (without_blanks behind) value.0 read.0.1 blanks.2 value.2,
    )
named_found profile name keys.Since behind x named h =
    let bare = without_blanks behind in
    let read = bind_ok {A = List ℕ × List ℕ} {B = Tree × List ℕ} (value_at bare)
    (λ value. since_of (time_in value.0) (length bare) value.1) x h in
    let blanks = blanks_found behind in
    let value = value_found bare read.0.0 read.0.1 read.1 in
    let time = since_found (time_in read.0.0) (length bare) read.0.1 x read.2 in
    subst (FoundBy (SpellsSimple profile) (name ++ behind)) time.2 (
      name ++ (blanks.0 ++ value.0),
      inr (inl (record {
        name = name;
        gap = blanks.0;
        quoted = value.0;
        value = read.0.0;
        time = time.0;
        named = named;
        blanks = blanks.1;
        spelled = value.1;
        read = time.1;
        parts = refl;
        says = refl;
      })),
      glued name behind blanks.0 bare value.0 read.0.1 blanks.2 value.2,
    )
named_found profile name keys.Format behind x named h =
    let bare = without_blanks behind in
    let stars = bind_ok {A = Bool × List ℕ} {B = Tree × List ℕ} (stars_at bare)
    (λ stars. value_at (without_blanks stars.1) >>= λ value. format_of (format_in stars.0 value.0) (length (without_blanks stars.1)) value.1)
    x h in
    let inner = without_blanks stars.0.1 in
    let read = bind_ok {A = List ℕ × List ℕ} {B = Tree × List ℕ} (value_at inner)
    (λ value. format_of (format_in stars.0.0 value.0) (length inner) value.1) x stars.2 in
    let sign = stars_found behind stars.0 stars.1 in
    let value = value_found inner read.0.0 read.0.1 read.1 in
    let format = format_found (format_in stars.0.0 read.0.0) (length inner) read.0.1 x read.2 in
    subst (FoundBy (SpellsSimple profile) (name ++ behind)) format.2 (
      name ++ (sign.0 ++ value.0),
      inr (inr (inl (record {
        name = name;
        stars = stars.0.0;
        middle = sign.0;
        quoted = value.0;
        value = read.0.0;
        format = format.0;
        named = named;
        compared = sign.1;
        spelled = value.1;
        read = format.1;
        parts = refl;
        says = refl;
      }))),
      glued name behind sign.0 inner value.0 read.0.1 sign.2 value.2,
    )
named_found profile name (keys.Of subject) behind x named h =
    let first = bind_ok {A = Operator × List ℕ} {B = Tree × List ℕ} (operator_at profile subject behind)
    (λ operator. value_at (without_blanks operator.1)
    >>= λ value. tested subject operator.0 value.0 (length (without_blanks operator.1)) >>= λ tree. Ok (tree, value.1)) x h in
    let inner = without_blanks first.0.1 in
    let read = bind_ok {A = List ℕ × List ℕ} {B = Tree × List ℕ} (value_at inner)
    (λ value. tested subject first.0.0 value.0 (length inner) >>= λ tree. Ok (tree, value.1)) x first.2 in
    let test = bind_ok {A = Tree} {B = Tree × List ℕ} (tested subject first.0.0 read.0.0 (length inner)) (λ tree. Ok (tree, read.0.1)) x read.2 in
    let good = guard_ok (is_good_value first.0.0 read.0.0) (test_tree subject first.0.0 read.0.0) test.0 (Bad (length inner)) test.1 in
    let operator = operator_found profile subject behind first.0 first.1 in
    let value = value_found inner read.0.0 read.0.1 read.1 in
    subst (FoundBy (SpellsSimple profile) (name ++ behind))
    (ap (λ (t : Tree). (t, read.0.1)) good.1 ∙ ok_same (test.0, read.0.1) x test.2) (
      name ++ (operator.0 ++ value.0),
      inr (inr (inr (record {
        name = name;
        subject = subject;
        middle = operator.0;
        operator = first.0.0;
        quoted = value.0;
        value = read.0.0;
        named = named;
        compared = operator.1;
        spelled = value.1;
        good = good.0;
        parts = refl;
        says = refl;
      }))),
      glued name behind operator.0 inner value.0 read.0.1 operator.2 value.2,
    )

test_found : (profile : Profile) (text : List ℕ) (x : Tree × List ℕ) → test_at profile text ≡ Ok x
    → FoundClosed (SpellsSimple profile) text x
unfolding test_at
test_found profile text x h =
    let key = bind_ok {A = Key × List ℕ} {B = Tree × List ℕ} (key_at profile text) (λ key. test_of profile key.0 key.1 >>= closed) x h in
    let test = bind_ok {A = Tree × List ℕ} {B = Tree × List ℕ} (test_of profile key.0.0 key.0.1) closed x key.2 in
    let name = key_found_so profile text key.0.1 key.0.0 key.1 in
    let found = named_found profile name.0 key.0.0 key.0.1 test.0 name.1 test.1 in
    closed_found (SpellsSimple profile) text test.0 x (found.0, found.1, name.2 ∙ found.2) test.2

-- what is read inside is spelled
abbrev pub IsSound : Reader → (Tree → List ℕ → Type 0) → Type 0
IsSound read spells = (text : List ℕ) (x : Tree × List ℕ) → read text ≡ Ok x → FoundBy spells text x

negation_found : (read : Reader) (spells : Tree → List ℕ → Type 0) → IsSound read spells → (text : List ℕ) (x : Tree × List ℕ)
    → negation_at read text ≡ Ok x → FoundClosed (SpellsNegation spells) text x
unfolding negation_at
negation_found read spells sound text x h =
    let mark = bind_ok {A = List ℕ} {B = Tree × List ℕ} (byte_at exclamation text)
    (λ inner. read (without_blanks inner) >>= λ y. closed (Not y.0, y.1)) x h in
    let inner = bind_ok {A = Tree × List ℕ} {B = Tree × List ℕ} (read (without_blanks mark.0)) (λ y. closed (Not y.0, y.1)) x mark.2 in
    let blanks = blanks_found mark.0 in
    let found = sound (without_blanks mark.0) inner.0 inner.1 in
    let behind : mark.0 ≡ (blanks.0 ++ found.0) ++ inner.0.1 = blanks.2 ∙ ap (λ (s : List ℕ). blanks.0 ++ s) found.2
    ∙ sym (append_assoc blanks.0 found.0 inner.0.1) in
    closed_found (SpellsNegation spells) text (Not inner.0.0, inner.0.1) x (
      exclamation ∷ (blanks.0 ++ found.0),
      record { inner = inner.0.0; gap = blanks.0; spelling = found.0; blanks = blanks.1; spelled = found.1; parts = refl; says = refl },
      byte_found exclamation text mark.0 mark.1 ∙ ap (λ (s : List ℕ). exclamation ∷ s) behind,
    ) inner.2

-- a group of any number
abbrev pub SpellsSome : (Tree → List ℕ → Type 0) → Tree → List ℕ → Type 0
SpellsSome spells tree text = (others : ℕ) × SpellsGroup spells others tree text

pub group_parts : (f b w a l r : List ℕ) → (f ++ (b ++ (w ++ (a ++ l)))) ++ r ≡ f ++ (b ++ (w ++ (a ++ (l ++ r))))
group_parts f b w a l r = regroup f b (w ++ (a ++ l)) r ∙ ap (λ (s : List ℕ). f ++ (b ++ s)) (regroup w a l r)

-- one EXPR more
longer_found : (spells : Tree → List ℕ → Type 0) (text gap rest : List ℕ) (tree right : Tree) → FoundBy (SpellsSome spells) text (tree, gap)
    → between_gaps (codes "AND") gap ≡ Ok rest → (behind : List ℕ) → FoundBy spells rest (right, behind)
    → FoundBy (SpellsSome spells) text (And tree right, behind)
longer_found spells text gap rest tree right found h behind last =
    let sign = spaced (codes "AND") gap rest h in (
      found.0 ++ (sign.0 ++ (codes "AND" ++ (sign.1 ++ last.0))),
      (suc found.1.0, (tree, right, found.0, sign.0, sign.1, last.0, found.1.1, sign.2, sign.3, last.1, refl, refl)),
      found.2 ∙ ap (λ (s : List ℕ). found.0 ++ s) (sign.4 ∙ ap (λ (s : List ℕ). sign.0 ++ (codes "AND" ++ (sign.1 ++ s))) last.2)
          ∙ sym (group_parts found.0 sign.0 (codes "AND") sign.1 last.0 behind),
    )

others_found : (read : Reader) (spells : Tree → List ℕ → Type 0) → IsSound read spells → (most : ℕ) (text : List ℕ) (y x : Tree × List ℕ)
    → FoundBy (SpellsSome spells) text y → others_at read most y ≡ Ok x → FoundClosed (SpellsSome spells) text x
unfolding others_at
others_found read spells sound zero text y x found h = closed_found (SpellsSome spells) text y x found h
others_found read spells sound (suc most) text y x found h =
    by_cases (begins_so closing (without_blanks y.1)) h (λ z more k. others_found read spells sound most text z x more k)
  where
    by_cases : (c : Bool)
        → cond c (closed y) (between_gaps (codes "AND") y.1 >>= λ rest. read rest >>= λ z. others_at read most (And y.0 z.0, z.1)) ≡ Ok x
        → ((z : Tree × List ℕ) → FoundBy (SpellsSome spells) text z → others_at read most z ≡ Ok x → FoundClosed (SpellsSome spells) text x)
        → FoundClosed (SpellsSome spells) text x
    by_cases true k again = closed_found (SpellsSome spells) text y x found k
    by_cases false k again =
        let gaps = bind_ok {A = List ℕ} {B = Tree × List ℕ} (between_gaps (codes "AND") y.1)
        (λ rest. read rest >>= λ z. others_at read most (And y.0 z.0, z.1)) x k in
        let right = bind_ok {A = Tree × List ℕ} {B = Tree × List ℕ} (read gaps.0) (λ z. others_at read most (And y.0 z.0, z.1)) x gaps.2 in
        again (And y.0 right.0.0, right.0.1)
        (longer_found spells text y.1 gaps.0 y.0 right.0.0 found gaps.1 right.0.1 (sound gaps.0 right.0 right.1)) right.2

group_found : (read : Reader) (spells : Tree → List ℕ → Type 0) → IsSound read spells → (text : List ℕ) (x : Tree × List ℕ)
    → group_at read text ≡ Ok x → FoundClosed (SpellsSome spells) text x
unfolding group_at
group_found read spells sound text x h =
    let first = bind_ok {A = Tree × List ℕ} {B = Tree × List ℕ} (read text) (λ y. others_at read (length y.1) y) x h in
    let found = sound text first.0 first.1 in
    others_found read spells sound (length first.0.1) text first.0 x (found.0, (zero, found.1), found.2) first.2

inside_found : (profile : Profile) (read : Reader) (spells : Tree → List ℕ → Type 0) → IsSound read spells → (text : List ℕ) (x : Tree × List ℕ)
    → inside_at profile read text ≡ Ok x → FoundClosed (SpellsInside profile spells) text x
unfolding inside_at
inside_found profile read spells sound text x h = by_cases (begins_so opening text) (begins_so exclamation text) h
  where
    by_cases : (o e : Bool) → cond o (group_at read text) (cond e (negation_at read text) (test_at profile text)) ≡ Ok x
        → FoundClosed (SpellsInside profile spells) text x
    by_cases true e k = wider (SpellsSome spells) (SpellsInside profile spells) text x (λ tree front s. inr (inr s))
        (group_found read spells sound text x k)
    by_cases false true k = wider (SpellsNegation spells) (SpellsInside profile spells) text x (λ tree front s. inr (inl s))
        (negation_found read spells sound text x k)
    by_cases false false k = wider (SpellsSimple profile) (SpellsInside profile spells) text x (λ tree front s. inl s) (test_found profile text x k)

pub enclosed_parts : (b i a x : List ℕ) → opening ∷ (b ++ (i ++ (a ++ closing ∷ x))) ≡ (opening ∷ (b ++ (i ++ (a ++ closing ∷ [])))) ++ x
enclosed_parts b i a x =
    ap (λ (s : List ℕ). opening ∷ s) (sym (regroup b i (a ++ closing ∷ []) x
    ∙ ap (λ (s : List ℕ). b ++ (i ++ s)) (append_assoc a (closing ∷ []) x)))

-- what is read is spelled
pub expression_found : (profile : Profile) (room : ℕ) → IsSound (expression_at profile room) (Spells profile room)
unfolding expression_at Spells
expression_found profile zero text x h =
    let none = bind_ok {A = List ℕ} {B = Tree × List ℕ} (byte_at opening text) (λ rest. Err (Deep (length text))) x h in
    absurd (let refused : ◌≡◌ {A = Result (Tree × List ℕ) Fault} (Err (Deep (length text))) (Ok x) = none.2 in cc)
expression_found profile (suc room) text x h =
    let first = bind_ok {A = List ℕ} {B = Tree × List ℕ} (byte_at opening text)
    (λ rest. inside_at profile (expression_at profile room) (without_blanks rest)) x h in
    let blanks = blanks_found first.0 in
    let found = inside_found profile (expression_at profile room) (Spells profile room) (expression_found profile room) (without_blanks first.0) x first.2 in
    let parts : text ≡ opening ∷ (blanks.0 ++ (found.0 ++ (found.1 ++ closing ∷ x.1))) =
    byte_found opening text first.0 first.1 ∙ ap (λ (s : List ℕ). opening ∷ s) (blanks.2 ∙ ap (λ (s : List ℕ). blanks.0 ++ s) found.4) in (
      opening ∷ (blanks.0 ++ (found.0 ++ (found.1 ++ closing ∷ []))),
      record {
        before = blanks.0;
        inside = found.0;
        after = found.1;
        blanks_before = blanks.1;
        blanks_after = found.3;
        spelled = found.2;
        parts = refl;
      },
      parts ∙ enclosed_parts blanks.0 found.0 found.1 x.1,
    )

nothing_behind : (rest : List ℕ) → is_nil rest ≡ true → rest ≡ []
nothing_behind [] h = refl
nothing_behind (b ∷ rest) h = absurd (cc)

pub whole_found : (profile : Profile) (word : List ℕ) (tree : Tree) → whole profile word ≡ Ok tree → SpellsWord profile tree word
unfolding whole
whole_found profile word tree h =
    let read = bind_ok {A = Tree × List ℕ} {B = Tree} (expression_at profile most_open word) (λ x. alone (x.0, trimmed profile x.1)) tree h in
    let end = guard_ok (is_nil (trimmed profile read.0.1)) read.0.0 tree (Bad (length (trimmed profile read.0.1))) read.2 in
    let found = expression_found profile most_open word read.0 read.1 in
    subst (λ (t : Tree). SpellsWord profile t word) end.1
    (by_profile profile read.0.0 found.0 read.0.1 found.1 found.2 (nothing_behind (trimmed profile read.0.1) end.0))
  where
    by_profile : (profile : Profile) (tree : Tree) (front rest : List ℕ) → Spells profile most_open tree front → word ≡ front ++ rest
        → trimmed profile rest ≡ [] → SpellsWord profile tree word
    by_profile Named tree front rest spelled e none =
        let same : word ≡ front = e ∙ ap (λ (s : List ℕ). front ++ s) none ∙ append-nil front in
        subst (Spells Named most_open tree) (sym same) spelled
    by_profile Wide tree front rest spelled e none =
        let blanks = blanks_found rest in
        let behind : rest ≡ blanks.0 = blanks.2 ∙ ap (λ (s : List ℕ). blanks.0 ++ s) none ∙ append-nil blanks.0 in
        (front, blanks.0, spelled, blanks.1, e ∙ ap (λ (s : List ℕ). front ++ s) behind)
