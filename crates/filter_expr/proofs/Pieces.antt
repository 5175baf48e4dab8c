-- The parts of an expression's text, both ways: what is read is spelled so, and what is spelled so is read, whatever follows.
use Rattle.std.proofs.Common.{◌≡◌, ◌⊎◌, inl, inr, ℕ, Bool, true, false, nat_eq, cond, List, [], ◌∷◌, ◌++◌, length, Result, Ok, Err, refl}
use Rattle.std.proofs.Common.{sym, ap, ◌∙◌, subst, arith, append_assoc}
use Rattle.std.proofs.lemmas.Bool.{and_parts, and_from, or_cases, eqb-true, eq-eqb, ne_eqb, eqb-false}
use Rattle.std.specs.List.{list_all}
use Rattle.std.specs.Str.{is_utf8}
use Rattle.filter_expr.specs.Grammar.{AreBlanks, IsGap, Escapes, SpellsValue}
use Rattle.filter_expr.specs.Parts.{Fault, ◌>>=◌, is_blank, is_quote, ends_name, backslash, without_blanks, byte_at, word_at, gap_at}
use Rattle.filter_expr.specs.Parts.{with_front, quoted, value_at}
use Rattle.filter_expr.specs.Parts.Fault.{Bad}

pub bind_ok : {A B : Type 0} (r : Result A Fault) (f : A → Result B Fault) (y : B) → (r >>= f) ≡ Ok y → (x : A) × (r ≡ Ok x) × (f x ≡ Ok y)
bind_ok (Ok x) f y h = (x, refl, h)
bind_ok (Err e) f y h = absurd (cc)

pub guard_ok : {A : Type 0} (b : Bool) (x y : A) (e : Fault) → cond b (Ok x) (Err e) ≡ Ok y → (b ≡ true) × (x ≡ y)
guard_ok true x y e h = (refl, cc)
guard_ok false x y e h = absurd (cc)

pub guarded : {A : Type 0} (b : Bool) (r : Result A Fault) (e : Fault) (y : A) → cond b r (Err e) ≡ Ok y → (b ≡ true) × (r ≡ Ok y)
guarded true r e y h = (refl, h)
guarded false r e y h = absurd (cc)

cons_same : (b c : ℕ) (xs ys : List ℕ) → b ≡ c → xs ≡ ys → b ∷ xs ≡ c ∷ ys
cons_same b c xs ys e f = cc

pub ok_same : {A : Type 0} (x y : A) → ◌≡◌ {A = Result A Fault} (Ok x) (Ok y) → x ≡ y
ok_same x y h = cc

pub pair_parts : (a x b y : List ℕ) → ◌≡◌ {A = Result (List ℕ × List ℕ) Fault} (Ok (a, b)) (Ok (x, y)) → (a ≡ x) × (b ≡ y)
pair_parts a x b y h = let same : ◌≡◌ {A = List ℕ × List ℕ} (a, b) (x, y) = cc in (ap (λ p. p.0) same, ap (λ p. p.1) same)

pub byte_found : (byte : ℕ) (text rest : List ℕ) → byte_at byte text ≡ Ok rest → text ≡ byte ∷ rest
unfolding byte_at
byte_found byte [] rest h = absurd (cc)
byte_found byte (b ∷ text) rest h =
    let both = guard_ok (nat_eq b byte) text rest (Bad (length (b ∷ text))) h in
    let same : b ≡ byte = eqb-true b byte both.0 in
    cons_same b byte text rest same both.1

pub byte_again : (byte : ℕ) (rest : List ℕ) → byte_at byte (byte ∷ rest) ≡ Ok rest
unfolding byte_at
byte_again byte rest = let same : nat_eq byte byte ≡ true = eq-eqb byte byte refl in rw same refl

pub word_found : (word text rest : List ℕ) → word_at word text ≡ Ok rest → text ≡ word ++ rest
unfolding word_at
word_found [] text rest h = cc
word_found (b ∷ word) text rest h =
    let first = bind_ok (byte_at b text) (word_at word) rest h in
    byte_found b text first.0 first.1 ∙ ap (λ (s : List ℕ). b ∷ s) (word_found word first.0 rest first.2)

pub word_again : (word rest : List ℕ) → word_at word (word ++ rest) ≡ Ok rest
unfolding word_at
word_again [] rest = refl
word_again (b ∷ word) rest = ap (λ r. r >>= word_at word) (byte_again b (word ++ rest)) ∙ word_again word rest

pub blanks_found : (text : List ℕ) → (gap : List ℕ) × AreBlanks gap × (text ≡ gap ++ without_blanks text)
unfolding without_blanks
blanks_found [] = ([], refl, refl)
blanks_found (b ∷ text) = by_cases (is_blank b) refl (blanks_found text)
  where
    by_cases : (c : Bool) → is_blank b ≡ c → (gap : List ℕ) × AreBlanks gap × (text ≡ gap ++ without_blanks text)
        → (gap : List ℕ) × AreBlanks gap × (b ∷ text ≡ gap ++ without_blanks (b ∷ text))
    by_cases true e more = (b ∷ more.0, and_from (is_blank b) (list_all is_blank more.0) e more.1, rw e (ap (λ (s : List ℕ). b ∷ s) more.2))
    by_cases false e more = ([], refl, rw e refl)

pub blanks_again : (gap text : List ℕ) → AreBlanks gap → without_blanks (gap ++ text) ≡ without_blanks text
unfolding without_blanks
blanks_again [] text h = refl
blanks_again (b ∷ gap) text h = let both = and_parts (is_blank b) (list_all is_blank gap) h in rw both.0 (blanks_again gap text both.1)

pub blanks_stop : (b : ℕ) (text : List ℕ) → is_blank b ≡ false → without_blanks (b ∷ text) ≡ b ∷ text
unfolding without_blanks
blanks_stop b text h = rw h refl

pub gap_found : (text rest : List ℕ) → gap_at text ≡ Ok rest → (gap : List ℕ) × IsGap gap × (text ≡ gap ++ rest)
unfolding gap_at
gap_found [] rest h = absurd (cc)
gap_found (b ∷ text) rest h =
    let both = guard_ok (is_blank b) (without_blanks text) rest (Bad (length (b ∷ text))) h in
    let more = blanks_found text in (
      b ∷ more.0,
      (and_from (is_blank b) (list_all is_blank more.0) both.0 more.1, omega arith),
      ap (λ (s : List ℕ). b ∷ s) (more.2 ∙ ap (λ (s : List ℕ). more.0 ++ s) both.1),
    )

pub gap_again : (gap text : List ℕ) → IsGap gap → gap_at (gap ++ text) ≡ Ok (without_blanks text)
unfolding gap_at
gap_again [] text h = absurd (omega (arith, h.1))
gap_again (b ∷ gap) text h =
    let both = and_parts (is_blank b) (list_all is_blank gap) h.0 in
    let same : without_blanks (gap ++ text) ≡ without_blanks text = blanks_again gap text both.1 in
    rw both.0 (ap (λ (s : List ℕ). Ok s) same)

-- no blank is left in front
pub bare : (text : List ℕ) → without_blanks (without_blanks text) ≡ without_blanks text
bare text = let b = blanks_found text in sym (blanks_again b.0 (without_blanks text) b.1) ∙ ap without_blanks (sym b.2)

pub gap_bare : (text rest : List ℕ) → gap_at text ≡ Ok rest → without_blanks rest ≡ rest
unfolding gap_at
gap_bare [] rest h = absurd (cc)
gap_bare (b ∷ text) rest h =
    let both = guard_ok (is_blank b) (without_blanks text) rest (Bad (length (b ∷ text))) h in
    ap without_blanks (sym both.1) ∙ bare text ∙ both.1

-- what is read up to the closing quote
abbrev FoundQuoted : ℕ → Bool → List ℕ → List ℕ → List ℕ → Type 0
FoundQuoted quote false value rest text = (inside : List ℕ) × Escapes quote value inside × (text ≡ inside ++ quote ∷ rest)
FoundQuoted quote true value rest text = (b : ℕ) × (later inside : List ℕ) × (value ≡ b ∷ later) × Escapes quote later inside
    × (text ≡ b ∷ (inside ++ quote ∷ rest))

pub quoted_found : (quote : ℕ) (escaped : Bool) (text value rest : List ℕ) → quoted quote escaped text ≡ Ok (value, rest)
    → FoundQuoted quote escaped value rest text
unfolding quoted
quoted_found quote escaped [] value rest h = absurd (cc)
quoted_found quote true (b ∷ text) value rest h =
    let read = bind_ok (quoted quote false text) (λ x. Ok (b ∷ x.0, x.1)) (value, rest) h in
    let more = quoted_found quote false text read.0.0 read.0.1 read.1 in
    let is : (b ∷ read.0.0 ≡ value) × (read.0.1 ≡ rest) = pair_parts (b ∷ read.0.0) value read.0.1 rest read.2 in
    (b, read.0.0, more.0, sym is.0, more.1, ap (λ (s : List ℕ). b ∷ s) (more.2 ∙ ap (λ (s : List ℕ). more.0 ++ quote ∷ s) is.1))
quoted_found quote false (b ∷ text) value rest h =
    by_cases (nat_eq b quote) refl (nat_eq b backslash) refl h (quoted_found quote true text) (quoted_found quote false text)
  where
    by_cases : (q : Bool) → nat_eq b quote ≡ q → (s : Bool) → nat_eq b backslash ≡ s
        → cond q (Ok ([], text)) (cond s (quoted quote true text) (with_front b (quoted quote false text))) ≡ Ok (value, rest)
        → ((v r : List ℕ) → quoted quote true text ≡ Ok (v, r) → FoundQuoted quote true v r text)
        → ((v r : List ℕ) → quoted quote false text ≡ Ok (v, r) → FoundQuoted quote false v r text)
        → FoundQuoted quote false value rest (b ∷ text)
    by_cases true e s f k behind more =
        let is = pair_parts [] value text rest k in
        let same : b ≡ quote = eqb-true b quote e in
        ([], subst (λ (v : List ℕ). Escapes quote v []) is.0 refl, cons_same b quote text rest same is.1)
    by_cases false e true f k behind more =
        let found = behind value rest k in
        let same : b ≡ backslash = eqb-true b backslash f in (
          backslash ∷ found.0 ∷ found.2,
          subst (λ (v : List ℕ). Escapes quote v (backslash ∷ found.0 ∷ found.2)) (sym found.3) (
            found.2,
            found.4,
            inr refl,
          ),
          cons_same b backslash text (found.0 ∷ (found.2 ++ quote ∷ rest)) same found.5,
        )
    by_cases false e false f k behind more =
        let read = bind_ok (quoted quote false text) (λ x. Ok (b ∷ x.0, x.1)) (value, rest) k in
        let found = more read.0.0 read.0.1 read.1 in
        let is = pair_parts (b ∷ read.0.0) value read.0.1 rest read.2 in (
          b ∷ found.0,
          subst (λ (v : List ℕ). Escapes quote v (b ∷ found.0)) is.0 (
            found.0,
            found.1,
            inl (refl, eqb-false b quote e, eqb-false b backslash f),
          ),
          ap (λ (s : List ℕ). b ∷ s) (found.2 ∙ ap (λ (s : List ℕ). found.0 ++ quote ∷ s) is.1),
        )

pub quoted_again : (quote : ℕ) (value inside rest : List ℕ) → (quote ≡ backslash → ⊥) → Escapes quote value inside
    → quoted quote false (inside ++ quote ∷ rest) ≡ Ok (value, rest)
unfolding quoted
quoted_again quote [] inside rest other h =
    let same : nat_eq quote quote ≡ true = eq-eqb quote quote refl in
    rw h (rw same refl)
quoted_again quote (b ∷ value) inside rest other h = elim h.2 [
  | inl plain ↦
      let not_quote : nat_eq b quote ≡ false = ne_eqb b quote plain.1 in
      let not_slash : nat_eq b backslash ≡ false = ne_eqb b backslash plain.2 in
      ap (λ (s : List ℕ). quoted quote false (s ++ quote ∷ rest)) plain.0
      ∙ rw (not_quote, not_slash) (ap (with_front b) (quoted_again quote value h.0 rest other h.1))
  | inr slash ↦
      let not_quote : nat_eq backslash quote ≡ false = ne_eqb backslash quote (λ e. other (sym e)) in
      ap (λ (s : List ℕ). quoted quote false (s ++ quote ∷ rest)) slash
      ∙ rw not_quote (ap (with_front b) (quoted_again quote value h.0 rest other h.1))
]

-- a quote is neither a blank nor a backslash
pub quote_cases : (b : ℕ) → is_quote b ≡ true → (b ≡ 39) ⊎ (b ≡ 34)
quote_cases b h = elim (or_cases (nat_eq b 39) (nat_eq b 34) h) [ inl one ↦ inl (eqb-true b 39 one) | inr two ↦ inr (eqb-true b 34 two) ]

pub quote_no_slash : (b : ℕ) → is_quote b ≡ true → b ≡ backslash → ⊥
quote_no_slash b h e = elim (quote_cases b h) [ inl one ↦ absurd (omega arith) | inr two ↦ absurd (omega arith) ]

pub quote_no_blank : (b : ℕ) → is_quote b ≡ true → is_blank b ≡ false
quote_no_blank b h = elim (quote_cases b h) [ inl one ↦ rw one refl | inr two ↦ rw two refl ]

checked : ℕ → List ℕ × List ℕ → Result (List ℕ × List ℕ) Fault
checked left x = cond (is_utf8 x.0) (Ok x) (Err (Bad left))

pub value_found : (text value rest : List ℕ) → value_at text ≡ Ok (value, rest)
    → (spelling : List ℕ) × SpellsValue spelling value × (text ≡ spelling ++ rest)
unfolding value_at checked
value_found [] value rest h = absurd (cc)
value_found (b ∷ text) value rest h =
    let quote = guarded (is_quote b) (quoted b false text >>= checked (length (b ∷ text))) (Bad (length (b ∷ text))) (value, rest) h in
    let read = bind_ok (quoted b false text) (checked (length (b ∷ text))) (value, rest) quote.1 in
    let good = guard_ok (is_utf8 read.0.0) read.0 (value, rest) (Bad (length (b ∷ text))) read.2 in
    spelled_so b text value rest read.0.0 read.0.1 quote.0 read.1 good.0 (ap (λ p. p.0) good.1) (ap (λ p. p.1) good.1)
  where
    spelled_so : (b : ℕ) (text value rest v r : List ℕ) → is_quote b ≡ true → quoted b false text ≡ Ok (v, r) → is_utf8 v ≡ true → v ≡ value
        → r ≡ rest → (spelling : List ℕ) × SpellsValue spelling value × (b ∷ text ≡ spelling ++ rest)
    spelled_so b text value rest v r q h utf8 values rests =
        let found = quoted_found b false text v r h in (
          b ∷ (found.0 ++ b ∷ []),
          record {
            quote = b;
            inside = found.0;
            a_quote = q;
            escaped = subst (λ (v : List ℕ). Escapes b v found.0) values found.1;
            utf8 =
                subst (λ (v : List ℕ). is_utf8 v ≡ true) values utf8;
            parts = refl;
          },
          ap (λ (s : List ℕ). b ∷ s) (found.2 ∙ ap (λ (s : List ℕ). found.0 ++ b ∷ s) rests ∙ sym (append_assoc found.0 (b ∷ []) rest)),
        )

pub value_again : (spelling value rest : List ℕ) → SpellsValue spelling value → value_at (spelling ++ rest) ≡ Ok (value, rest)
unfolding value_at
value_again spelling value rest h =
    let text = append_assoc h.inside (h.quote ∷ []) rest in
    let read = quoted_again h.quote value h.inside rest (quote_no_slash h.quote h.a_quote) h.escaped in
    let bad = length (h.quote ∷ ((h.inside ++ h.quote ∷ []) ++ rest)) in
    ap (λ (s : List ℕ). value_at (s ++ rest)) h.parts
    ∙ rw h.a_quote (ap (λ (s : List ℕ). quoted h.quote false s >>= λ x. cond (is_utf8 x.0) (Ok x) (Err (Bad bad))) text
    ∙ ap (λ r. r >>= λ x. cond (is_utf8 x.0) (Ok x) (Err (Bad bad))) read ∙ rw h.utf8 refl)

pub value_bare : (spelling value tail : List ℕ) → SpellsValue spelling value → without_blanks (spelling ++ tail) ≡ spelling ++ tail
value_bare spelling value tail h =
    subst (λ (s : List ℕ). without_blanks (s ++ tail) ≡ s ++ tail) (sym h.parts)
    (blanks_stop h.quote ((h.inside ++ h.quote ∷ []) ++ tail) (quote_no_blank h.quote h.a_quote))

pub quote_ends : (b : ℕ) → is_quote b ≡ true → ends_name b ≡ true
quote_ends b h = elim (quote_cases b h) [ inl one ↦ rw one refl | inr two ↦ rw two refl ]
