-- The words that a line has are those of the grammar, and no others.
use Rattle.std.proofs.Common.{◌≡◌, ◌↔◌, ◌⊎◌, inl, inr, ℕ, ◌<◌, List, [], ◌∷◌, ◌++◌, length, get_or, Bool, true, false, ◌&&◌, not, ◌==◌}
use Rattle.std.proofs.Common.{if◌then◌else◌, Option, Some, None, Result, Ok, Err, refl, sym, ◌∙◌, ap, subst, append_assoc, arith}
use Rattle.std.proofs.lemmas.List.{append-nil}
use Rattle.std.proofs.lemmas.Option.{same_Some, none-some}
use Rattle.std.proofs.lemmas.Bool.Decides.{Decides-eqb}
use Rattle.std.specs.Result.{IfOk}
use Rattle.std.specs.List.{list_all}
use Rattle.command_text.specs.declared.words.WordsError.{WordsError}
use Rattle.command_text.specs.declared.words.WordsError.TheVariants.{BadQuoting, NoMemory}
use Rattle.command_text.specs.Words.{quote, backslash, is_blank, is_plain, Escapes, EndsWord, BeginsWith, AreWords, Standing, words_from}
use Rattle.command_text.specs.Words.{then_words, GivesWords, AreWordsOfLine, without_return, words_of}
use Rattle.command_text.specs.NextWord.{unescaped}
use Rattle.command_text.specs.Words.Standing.{Between, Plain, Quoted, Escaped, Closed}
use Rattle.command_text.proofs.Parting.{blank_step, plain_run, quote_begins, quote_closes, IsPiece, piece_nil, piece_append, piece_byte}
use Rattle.command_text.proofs.Parting.{piece_escape, is_special}
use Rattle.command_text.proofs.Spelling.{eqb_not, unescaped_nil, literal_step, escape_step}
use Rattle.command_text.proofs.Following.{begins, rest_goes_on, closed_rest}

both : (a b : Bool) → (a && b) ≡ true → (a ≡ true) × (b ≡ true)
both true true e = (refl, refl)
both true false e = cc
both false b e = cc

-- From the grammar to the words.

blanks_passed : (gap rest : List ℕ) → list_all is_blank gap ≡ true → words_from Between (gap ++ rest) ≡ words_from Between rest
blanks_passed [] rest h = refl
blanks_passed (c ∷ gap) rest h =
    let p = both (is_blank c) (list_all is_blank gap) h in
    blank_step c (gap ++ rest) p.0 ∙ blanks_passed gap rest p.1

only_blanks : (bytes : List ℕ) → list_all is_blank bytes ≡ true → words_from Between bytes ≡ Some []
unfolding words_from
only_blanks [] h = refl
only_blanks (c ∷ bytes) h =
    let p = both (is_blank c) (list_all is_blank bytes) h in
    blank_step c bytes p.0 ∙ only_blanks bytes p.1

ends_in_blank : (rest : List ℕ) → EndsWord rest → 0 < length rest → is_blank (get_or rest 0 0) ≡ true
ends_in_blank [] ends h = absurd (omega arith)
ends_in_blank (c ∷ rest) ends h = ends

bare_read : (word rest : List ℕ) → 0 < length word → list_all is_plain word ≡ true → EndsWord rest
    → words_from Between (word ++ rest) ≡ then_words word (words_from Between rest)
bare_read [] rest h p ends = absurd (omega arith)
bare_read (c ∷ word) rest h p ends =
    let q = both (is_plain c) (list_all is_plain word) p in
    begins (c ∷ word ++ rest) (omega arith) q.0 ∙ plain_run [] (c ∷ word) rest p ∙ rest_goes_on (c ∷ word) rest (ends_in_blank rest ends)

-- what stands between quotes for a word
record StandsFor (inside word : List ℕ) : Type 0 where
  pub piece : IsPiece inside
  pub bytes : unescaped inside ≡ word

literal : (c : ℕ) → (c ≡ quote → ⊥) → (c ≡ backslash → ⊥) → not (is_special c) ≡ true
literal c q b = rw (eqb_not c quote q, eqb_not c backslash b) refl

escapes_stand : (word inside : List ℕ) → Escapes word inside → StandsFor inside word
escapes_stand [] inside e = subst (λ (i : List ℕ). StandsFor i []) (sym e) (record { piece = piece_nil; bytes = unescaped_nil })
escapes_stand (c ∷ word) inside h =
    let rest = h.0 in
    let r = escapes_stand word rest h.1 in
    elim h.2 [
      | inl f ↦ subst (λ (i : List ℕ). StandsFor i (c ∷ word)) (sym f.0) (record {
        piece = piece_append (c ∷ []) rest (piece_byte c (literal c f.1 f.2)) r.piece;
        bytes = literal_step c rest (eqb_not c backslash f.2) ∙ ap (λ (l : List ℕ). c ∷ l) r.bytes;
      })
      | inr f ↦ subst (λ (i : List ℕ). StandsFor i (c ∷ word)) (sym f) (record {
        piece = piece_append (backslash ∷ c ∷ []) rest (piece_escape c) r.piece;
        bytes = escape_step c rest ∙ ap (λ (l : List ℕ). c ∷ l) r.bytes;
      })
    ]

quoted_read : (word inside rest : List ℕ) → Escapes word inside → EndsWord rest
    → words_from Between (quote ∷ (inside ++ (quote ∷ rest))) ≡ then_words word (words_from Between rest)
quoted_read word inside rest h ends =
    let s = escapes_stand word inside h in
    quote_begins (inside ++ (quote ∷ rest)) ∙ s.piece.words [] (quote ∷ rest) ∙ quote_closes (unescaped inside) rest
    ∙ ap (λ (w : List ℕ). words_from (Closed w) rest) s.bytes ∙ closed_rest word rest (ends_in_blank rest ends)

first_read : (bytes word rest : List ℕ) → BeginsWith bytes word rest → words_from Between bytes ≡ then_words word (words_from Between rest)
first_read bytes word rest b =
    ap (words_from Between) b.parts ∙ blanks_passed b.gap (b.text ++ rest) b.blanks
    ∙ elim b.spells [
      | inl plain ↦ ap (λ (t : List ℕ). words_from Between (t ++ rest)) plain.same ∙ bare_read word rest plain.nonempty plain.plain b.ends
      | inr quoted ↦
          let e : b.text ++ rest ≡ quote ∷ (quoted.0 ++ (quote ∷ rest)) =
          ap (λ (t : List ℕ). t ++ rest) quoted.2 ∙ ap (λ (t : List ℕ). quote ∷ t) (append_assoc quoted.0 (quote ∷ []) rest) in
          ap (words_from Between) e ∙ quoted_read word quoted.0 rest quoted.1 b.ends
    ]

pub read_from_grammar : (bytes : List ℕ) (words : List (List ℕ)) → AreWords bytes words → words_from Between bytes ≡ Some words
read_from_grammar bytes [] h = only_blanks bytes h
read_from_grammar bytes (word ∷ words) h =
    first_read bytes word h.0 h.1 ∙ ap (then_words word) (read_from_grammar h.0 words h.2)

-- From the words to the grammar.

-- A word without quotes goes on with these bytes.
record GoesOnPlain (word bytes : List ℕ) (words : List (List ℕ)) : Type 0 where
  pub run : List ℕ
  pub rest : List ℕ
  pub more : List (List ℕ)
  pub parts : bytes ≡ run ++ rest
  pub plain : list_all is_plain run ≡ true
  pub ends : EndsWord rest
  pub is : words ≡ (word ++ run) ∷ more
  pub behind : AreWords rest more

-- The inside of quotes goes on with these bytes.
record GoesOnQuoted (word bytes : List ℕ) (words : List (List ℕ)) : Type 0 where
  pub tail : List ℕ
  pub inside : List ℕ
  pub rest : List ℕ
  pub more : List (List ℕ)
  pub parts : bytes ≡ inside ++ (quote ∷ rest)
  pub escapes : Escapes tail inside
  pub ends : EndsWord rest
  pub is : words ≡ (word ++ tail) ∷ more
  pub behind : AreWords rest more

-- The same behind a backslash.
record GoesOnEscaped (word bytes : List ℕ) (words : List (List ℕ)) : Type 0 where
  pub byte : ℕ
  pub others : List ℕ
  pub parts : bytes ≡ byte ∷ others
  pub quoted : GoesOnQuoted (word ++ byte ∷ []) others words

-- The bytes stand right behind a closing quote.
record GoesOnClosed (word bytes : List ℕ) (words : List (List ℕ)) : Type 0 where
  pub more : List (List ℕ)
  pub ends : EndsWord bytes
  pub is : words ≡ word ∷ more
  pub behind : AreWords bytes more

abbrev Follows : Standing → List ℕ → List (List ℕ) → Type 0
Follows Between bytes words = AreWords bytes words
Follows (Plain word) bytes words = GoesOnPlain word bytes words
Follows (Quoted word) bytes words = GoesOnQuoted word bytes words
Follows (Escaped word) bytes words = GoesOnEscaped word bytes words
Follows (Closed word) bytes words = GoesOnClosed word bytes words

differs : (a b : ℕ) → (a == b) ≡ false → a ≡ b → ⊥
differs a b h e = differs_bool (a == b) h ((Decides-eqb a b).1 e)
  where
    differs_bool : (t : Bool) → t ≡ false → t ≡ true → ⊥
    differs_bool t h e = cc

chosen : {A : Type 0} (b : Bool) (x y z : A) → (if b then x else y) ≡ z → ((b ≡ true) × (x ≡ z)) ⊎ ((b ≡ false) × (y ≡ z))
chosen true x y z e = inl (refl, e)
chosen false x y z e = inr (refl, e)

then_some : (word : List ℕ) (read : Option (List (List ℕ))) (words : List (List ℕ)) → then_words word read ≡ Some words
    → (more : List (List ℕ)) × (read ≡ Some more) × (words ≡ word ∷ more)
then_some word None words e = cc
then_some word (Some more) words e = (more, refl, sym (same_Some (word ∷ more) words e))

more_blank : (c : ℕ) (rest : List ℕ) (words : List (List ℕ)) → is_blank c ≡ true → AreWords rest words → AreWords (c ∷ rest) words
more_blank c rest [] b h = rw b h
more_blank c rest (word ∷ words) b h =
    let first = h.1 in (
      h.0,
      record {
        gap = c ∷ first.gap;
        text = first.text;
        parts = ap (λ (l : List ℕ). c ∷ l) first.parts;
        blanks = rw b first.blanks;
        spells = first.spells;
        ends = first.ends;
      },
      h.2,
    )

plain_from : (a b : Bool) → a ≡ false → b ≡ false → (not a && not b) ≡ true
plain_from a b p q = rw (p, q) refl

bare_begins_with : (c : ℕ) (rest : List ℕ) (words : List (List ℕ)) → is_plain c ≡ true → GoesOnPlain (c ∷ []) rest words
    → AreWords (c ∷ rest) words
bare_begins_with c rest words p g =
    subst (AreWords (c ∷ rest)) (sym g.is) (
      g.rest,
      record {
        gap = [];
        text = c ∷ g.run;
        parts = ap (λ (l : List ℕ). c ∷ l) g.parts;
        blanks = refl;
        spells = inl (record { same = refl; nonempty = omega arith; plain = rw p g.plain });
        ends = g.ends;
      },
      g.behind,
    )

quote_begins_with : (c : ℕ) (rest : List ℕ) (words : List (List ℕ)) → c ≡ quote → GoesOnQuoted [] rest words → AreWords (c ∷ rest) words
quote_begins_with c rest words q g =
    subst (AreWords (c ∷ rest)) (sym g.is) (
      g.rest,
      record {
        gap = [];
        text = quote ∷ g.inside ++ quote ∷ [];
        parts = ap (λ (b : ℕ). b ∷ rest) q ∙ ap (λ (l : List ℕ). quote ∷ l) (g.parts ∙ sym (append_assoc g.inside (quote ∷ []) g.rest));
        blanks = refl;
        spells = inr (g.inside, g.escapes, refl);
        ends = g.ends;
      },
      g.behind,
    )

bare_goes_on : (word : List ℕ) (c : ℕ) (rest : List ℕ) (words : List (List ℕ)) → is_plain c ≡ true → GoesOnPlain (word ++ c ∷ []) rest words
    → GoesOnPlain word (c ∷ rest) words
bare_goes_on word c rest words p g = record {
  run = c ∷ g.run;
  rest = g.rest;
  more = g.more;
  parts = ap (λ (l : List ℕ). c ∷ l) g.parts;
  plain = rw p g.plain;
  ends = g.ends;
  is = g.is ∙ ap (λ (w : List ℕ). w ∷ g.more) (append_assoc word (c ∷ []) g.run);
  behind = g.behind;
}

quoted_goes_on : (word : List ℕ) (c : ℕ) (rest : List ℕ) (words : List (List ℕ)) → (c ≡ quote → ⊥) → (c ≡ backslash → ⊥)
    → GoesOnQuoted (word ++ c ∷ []) rest words → GoesOnQuoted word (c ∷ rest) words
quoted_goes_on word c rest words q b g = record {
  tail = c ∷ g.tail;
  inside = c ∷ g.inside;
  rest = g.rest;
  more = g.more;
  parts = ap (λ (l : List ℕ). c ∷ l) g.parts;
  escapes = (g.inside, g.escapes, inl (refl, q, b));
  ends = g.ends;
  is = g.is ∙ ap (λ (w : List ℕ). w ∷ g.more) (append_assoc word (c ∷ []) g.tail);
  behind = g.behind;
}

escape_goes_on : (word : List ℕ) (c : ℕ) (rest : List ℕ) (words : List (List ℕ)) → c ≡ backslash → GoesOnEscaped word rest words
    → GoesOnQuoted word (c ∷ rest) words
escape_goes_on word c rest words b g = record {
  tail = g.byte ∷ g.quoted.tail;
  inside = backslash ∷ g.byte ∷ g.quoted.inside;
  rest = g.quoted.rest;
  more = g.quoted.more;
  parts = ap (λ (x : ℕ). x ∷ rest) b ∙ ap (λ (l : List ℕ). backslash ∷ l) (g.parts ∙ ap (λ (l : List ℕ). g.byte ∷ l) g.quoted.parts);
  escapes = (g.quoted.inside, g.quoted.escapes, inr refl);
  ends = g.quoted.ends;
  is = g.quoted.is ∙ ap (λ (w : List ℕ). w ∷ g.quoted.more) (append_assoc word (g.byte ∷ []) g.quoted.tail);
  behind = g.quoted.behind;
}

closes : (word : List ℕ) (c : ℕ) (rest : List ℕ) (words : List (List ℕ)) → c ≡ quote → GoesOnClosed word rest words
    → GoesOnQuoted word (c ∷ rest) words
closes word c rest words q g = record {
  tail = [];
  inside = [];
  rest = rest;
  more = g.more;
  parts = ap (λ (x : ℕ). x ∷ rest) q;
  escapes = refl;
  ends = g.ends;
  is = g.is ∙ ap (λ (w : List ℕ). w ∷ g.more) (sym (append-nil word));
  behind = g.behind;
}

read_follows : (standing : Standing) (bytes : List ℕ) (words : List (List ℕ)) → words_from standing bytes ≡ Some words
    → Follows standing bytes words
unfolding words_from
read_follows Between [] words e = subst (AreWords []) (same_Some [] words e) refl
read_follows Between (c ∷ rest) words e =
    elim (chosen (is_blank c) _ _ (Some words) e) [
      | inl b ↦ more_blank c rest words b.0 (read_follows Between rest words b.1)
      | inr n ↦ elim (chosen (c == quote) _ _ (Some words) n.1) [
        | inl q ↦ quote_begins_with c rest words ((Decides-eqb c quote).0 q.0) (read_follows (Quoted []) rest words q.1)
        | inr p ↦ bare_begins_with c rest words (plain_from (is_blank c) (c == quote) n.0 p.0)
            (read_follows (Plain (c ∷ [])) rest words p.1)
      ]
    ]
read_follows (Plain word) [] words e = record {
  run = [];
  rest = [];
  more = [];
  parts = refl;
  plain = refl;
  ends = tt;
  is = sym (same_Some (word ∷ []) words e) ∙ ap (λ (w : List ℕ). w ∷ []) (sym (append-nil word));
  behind = refl;
}
read_follows (Plain word) (c ∷ rest) words e =
    elim (chosen (is_blank c) _ _ (Some words) e) [
      | inl b ↦
          let t = then_some word (words_from Between rest) words b.1 in
          record {
            run = [];
            rest = c ∷ rest;
            more = t.0;
            parts = refl;
            plain = refl;
            ends = b.0;
            is = t.2 ∙ ap (λ (w : List ℕ). w ∷ t.0) (sym (append-nil word));
            behind = more_blank c rest t.0 b.0 (read_follows Between rest t.0 t.1);
          }
      | inr n ↦ elim (chosen (c == quote) _ _ (Some words) n.1) [
        | inl q ↦ absurd (none-some words q.1)
        | inr p ↦ bare_goes_on word c rest words (plain_from (is_blank c) (c == quote) n.0 p.0)
            (read_follows (Plain (word ++ c ∷ [])) rest words p.1)
      ]
    ]
read_follows (Quoted word) [] words e = absurd (none-some words e)
read_follows (Quoted word) (c ∷ rest) words e =
    elim (chosen (c == quote) _ _ (Some words) e) [
      | inl q ↦ closes word c rest words ((Decides-eqb c quote).0 q.0) (read_follows (Closed word) rest words q.1)
      | inr n ↦ elim (chosen (c == backslash) _ _ (Some words) n.1) [
        | inl b ↦ escape_goes_on word c rest words ((Decides-eqb c backslash).0 b.0) (read_follows (Escaped word) rest words b.1)
        | inr p ↦ quoted_goes_on word c rest words (differs c quote n.0) (differs c backslash p.0)
            (read_follows (Quoted (word ++ c ∷ [])) rest words p.1)
      ]
    ]
read_follows (Escaped word) [] words e = absurd (none-some words e)
read_follows (Escaped word) (c ∷ rest) words e =
    record { byte = c; others = rest; parts = refl; quoted = read_follows (Quoted (word ++ c ∷ [])) rest words e }
read_follows (Closed word) [] words e = record { more = []; ends = tt; is = sym (same_Some (word ∷ []) words e); behind = refl }
read_follows (Closed word) (c ∷ rest) words e =
    elim (chosen (is_blank c) _ _ (Some words) e) [
      | inl b ↦
          let t = then_some word (words_from Between rest) words b.1 in
          record { more = t.0; ends = b.0; is = t.2; behind = more_blank c rest t.0 b.0 (read_follows Between rest t.0 t.1) }
      | inr n ↦ absurd (none-some words n.1)
    ]

pub grammar_from_read : (bytes : List ℕ) (words : List (List ℕ)) → words_from Between bytes ≡ Some words → AreWords bytes words
grammar_from_read bytes words e = read_follows Between bytes words e

-- What a call that gave these words, or did not, says by the grammar.

pub given_words : {A : Type 0} (view : A → List (List ℕ)) (r : Result A WordsError) (bytes : List ℕ)
    → GivesWords view r (words_from Between bytes) → IfOk r (λ x. AreWords bytes (view x))
given_words view (Ok x) bytes h = grammar_from_read bytes (view x) h
given_words view (Err e) bytes h = tt

pub only_words : {A : Type 0} (view : A → List (List ℕ)) (r : Result A WordsError) (bytes : List ℕ)
    → GivesWords view r (words_from Between bytes) → (words : List (List ℕ)) → AreWords bytes words → GivesWords view r (Some words)
only_words view r bytes h words are = subst (GivesWords view r) (read_from_grammar bytes words are) h

bad_words : {A : Type 0} (view : A → List (List ℕ)) (r : Result A WordsError) (read : Option (List (List ℕ))) → GivesWords view r read
    → r ≡ Err BadQuoting → read ≡ None
bad_words view (Ok x) read h e = cc
bad_words view (Err BadQuoting) read h e = h
bad_words view (Err NoMemory) read h e = cc

pub no_words_given : {A : Type 0} (view : A → List (List ℕ)) (r : Result A WordsError) (bytes : List ℕ)
    → GivesWords view r (words_from Between bytes) → r ≡ Err BadQuoting → (words : List (List ℕ)) → AreWords bytes words → ⊥
no_words_given view r bytes h e words are =
    none-some words (sym (bad_words view r (words_from Between bytes) h e) ∙ read_from_grammar bytes words are)

pub one_reading : (line : List ℕ) (words : List (List ℕ)) → (words_of line ≡ Some words) ↔ AreWordsOfLine line words
unfolding words_of
one_reading line words = (grammar_from_read (without_return line) words, read_from_grammar (without_return line) words)
