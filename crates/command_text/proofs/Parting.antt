-- How `words_from` goes over the parts of a line.
use Rattle.std.proofs.Common.{◌≡◌, ℕ, ◌+◌, ◌<◌, List, [], ◌∷◌, ◌++◌, length, take, drop, get_or, Bool, true, false, ◌&&◌, ◌||◌, not, ◌==◌}
use Rattle.std.proofs.Common.{None, refl, sym, ◌∙◌, ap, append_assoc}
use Rattle.std.proofs.lemmas.List.{append-nil}
use Rattle.std.specs.List.{list_all}
use Rattle.command_text.specs.Words.{quote, backslash, is_blank, is_plain, words_from, then_words}
use Rattle.command_text.specs.NextWord.{unescaped, unescaped_from, IsClosedAt}
use Rattle.command_text.specs.Words.Standing.{Between, Plain, Quoted, Closed}
use Rattle.command_text.proofs.Lists.{parted_at}

both : (a b : Bool) → (a && b) ≡ true → (a ≡ true) × (b ≡ true)
both true true e = (refl, refl)
both true false e = cc
both false b e = cc

pub neither : (a b : Bool) → (not a && not b) ≡ true → (a ≡ false) × (b ≡ false)
neither true b e = cc
neither false true e = cc
neither false false e = (refl, refl)

pub plain_if : (a b : Bool) → (a || b) ≡ false → (not a && not b) ≡ true
plain_if true b e = cc
plain_if false true e = cc
plain_if false false e = refl

pub blank_step : (c : ℕ) (rest : List ℕ) → is_blank c ≡ true → words_from Between (c ∷ rest) ≡ words_from Between rest
unfolding words_from
blank_step c rest h = rw h refl

-- a word without quotes begins
pub bare_begins : (c : ℕ) (rest : List ℕ) → is_plain c ≡ true → words_from Between (c ∷ rest) ≡ words_from (Plain []) (c ∷ rest)
unfolding words_from
bare_begins c rest h = let p = neither (is_blank c) (c == quote) h in rw (p.0, p.1) refl

plain_step : (word : List ℕ) (c : ℕ) (rest : List ℕ) → is_plain c ≡ true
    → words_from (Plain word) (c ∷ rest) ≡ words_from (Plain (word ++ c ∷ [])) rest
unfolding words_from
plain_step word c rest h = let p = neither (is_blank c) (c == quote) h in rw (p.0, p.1) refl

pub plain_run : (word run rest : List ℕ) → list_all is_plain run ≡ true
    → words_from (Plain word) (run ++ rest) ≡ words_from (Plain (word ++ run)) rest
plain_run word [] rest h = rw (append-nil word) refl
plain_run word (c ∷ run) rest h =
    let p = both (is_plain c) (list_all is_plain run) h in
    let e : (word ++ c ∷ []) ++ run ≡ word ++ c ∷ run = append_assoc word (c ∷ []) run in
    plain_step word c (run ++ rest) p.0 ∙ plain_run (word ++ c ∷ []) run rest p.1 ∙ ap (λ (w : List ℕ). words_from (Plain w) rest) e

pub bare_ends : (word : List ℕ) → words_from (Plain word) [] ≡ then_words word (words_from Between [])
unfolding words_from
bare_ends word = refl

pub bare_stops : (word : List ℕ) (c : ℕ) (rest : List ℕ) → is_blank c ≡ true
    → words_from (Plain word) (c ∷ rest) ≡ then_words word (words_from Between (c ∷ rest))
unfolding words_from
bare_stops word c rest h = rw h refl

pub bare_bad : (word rest : List ℕ) → words_from (Plain word) (quote ∷ rest) ≡ None
unfolding words_from
bare_bad word rest = refl

-- a word in quotes begins
pub quote_begins : (rest : List ℕ) → words_from Between (quote ∷ rest) ≡ words_from (Quoted []) rest
unfolding words_from
quote_begins rest = refl

pub quote_closes : (word rest : List ℕ) → words_from (Quoted word) (quote ∷ rest) ≡ words_from (Closed word) rest
unfolding words_from
quote_closes word rest = refl

pub never_closed : (word : List ℕ) → words_from (Quoted word) [] ≡ None
unfolding words_from
never_closed word = refl

pub escapes_nothing : (word : List ℕ) → words_from (Quoted word) (backslash ∷ []) ≡ None
unfolding words_from
escapes_nothing word = refl

pub closed_ends : (word : List ℕ) → words_from (Closed word) [] ≡ then_words word (words_from Between [])
unfolding words_from
closed_ends word = refl

pub closed_stops : (word : List ℕ) (c : ℕ) (rest : List ℕ) → is_blank c ≡ true
    → words_from (Closed word) (c ∷ rest) ≡ then_words word (words_from Between (c ∷ rest))
unfolding words_from
closed_stops word c rest h = rw h refl

pub closed_bad : (word : List ℕ) (c : ℕ) (rest : List ℕ) → is_blank c ≡ false → words_from (Closed word) (c ∷ rest) ≡ None
unfolding words_from
closed_bad word c rest h = rw h refl

-- A part of the inside of quotes that ends behind no single backslash.
pub record IsPiece (piece : List ℕ) : Type 0 where
  pub words : (word rest : List ℕ) → words_from (Quoted word) (piece ++ rest) ≡ words_from (Quoted (word ++ unescaped piece)) rest
  pub bytes : (rest : List ℕ) → unescaped (piece ++ rest) ≡ unescaped piece ++ unescaped rest

pub piece_nil : IsPiece []
unfolding unescaped_from
piece_nil = record { words = λ word rest. rw (append-nil word) refl; bytes = λ rest. refl }

-- whether a byte stands for itself between quotes
abbrev pub is_special : ℕ → Bool
is_special c = c == quote || c == backslash

not_special : (a b : Bool) → not (a || b) ≡ true → (a ≡ false) × (b ≡ false)
not_special true b e = cc
not_special false true e = cc
not_special false false e = (refl, refl)

pub piece_byte : (c : ℕ) → not (is_special c) ≡ true → IsPiece (c ∷ [])
unfolding words_from unescaped_from
piece_byte c h =
    let p = not_special (c == quote) (c == backslash) h in
    record { words = λ word rest. rw (p.0, p.1) refl; bytes = λ rest. rw p.1 refl }

pub piece_escape : (c : ℕ) → IsPiece (backslash ∷ c ∷ [])
unfolding words_from unescaped_from
piece_escape c = record { words = λ word rest. refl; bytes = λ rest. refl }

pub piece_append : (a b : List ℕ) → IsPiece a → IsPiece b → IsPiece (a ++ b)
piece_append a b pa pb = record {
  words = λ word rest.
      let e : (word ++ unescaped a) ++ unescaped b ≡ word ++ unescaped (a ++ b) =
      append_assoc word (unescaped a) (unescaped b) ∙ ap (λ (r : List ℕ). word ++ r) (sym (pa.bytes b)) in
      ap (λ (l : List ℕ). words_from (Quoted word) l) (append_assoc a b rest) ∙ pa.words word (b ++ rest)
      ∙ pb.words (word ++ unescaped a) rest ∙ ap (λ (w : List ℕ). words_from (Quoted w) rest) e;
  bytes = λ rest.
      ap unescaped (append_assoc a b rest) ∙ pa.bytes (b ++ rest) ∙ ap (λ (r : List ℕ). unescaped a ++ r) (pb.bytes rest)
      ∙ sym (append_assoc (unescaped a) (unescaped b) (unescaped rest)) ∙ ap (λ (r : List ℕ). r ++ unescaped rest) (sym (pa.bytes b));
}

pub piece_run : (run : List ℕ) → list_all (λ c. not (is_special c)) run ≡ true → IsPiece run
piece_run [] h = piece_nil
piece_run (c ∷ run) h =
    let p = both (not (is_special c)) (list_all (λ c. not (is_special c)) run) h in
    piece_append (c ∷ []) run (piece_byte c p.0) (piece_run run p.1)

-- the inside of quotes ends behind a piece
pub piece_closed : (inside : List ℕ) (q : ℕ) → q < length inside → IsPiece (take q inside) → get_or inside q 0 ≡ quote → IsClosedAt inside q
piece_closed inside q lt p e =
    let whole : inside ≡ take q inside ++ (quote ∷ drop (q + 1) inside) =
    parted_at inside q lt ∙ ap (λ (c : ℕ). take q inside ++ (c ∷ drop (q + 1) inside)) e in
    record {
      within = lt;
      closed = ap (words_from (Quoted [])) whole ∙ p.words [] (quote ∷ drop (q + 1) inside)
          ∙ quote_closes (unescaped (take q inside)) (drop (q + 1) inside);
    }
