-- The words of a line that is UTF-8 are UTF-8, since a line is cut at bytes of ASCII alone.
use Rattle.std.proofs.Common.{◌≡◌, ◌⊎◌, inl, inr, ℕ, suc, ◌+◌, ◌-◌, ◌<◌, List, [], ◌∷◌, ◌++◌, length, take, drop, get_or}
use Rattle.std.proofs.Common.{Bool, true, false, ◌==◌, cond, Option, Some, None, refl, sym, ap, ◌∙◌, subst, arith, append_assoc}
use Rattle.std.specs.List.{list_all}
use Rattle.std.specs.Str.{IsUtf8, is_utf8}
use Rattle.std.proofs.lemmas.Bool.{or_cases, and_from, eqb-true}
use Rattle.std.proofs.lemmas.List.{append-nil, get_or-append-add, length-append}
use Rattle.std.proofs.lemmas.Str.{IsUtf8-append, IsUtf8-take, IsUtf8-drop, IsUtf8-from_is_utf8, is_utf8-from_IsUtf8}
use Rattle.std.proofs.lemmas.Str.{IsCharBoundary-before_ascii, IsCharBoundary-after_ascii}
use Rattle.command_text.specs.Words.{quote, backslash, carriage_return, is_blank, words_from, then_words, without_return, words_of}
use Rattle.command_text.specs.Words.{Standing}
use Rattle.command_text.specs.Words.Standing.{Between, Plain, Quoted, Escaped, Closed}

abbrev AreText : List (List ℕ) → Type 0
AreText words = list_all is_utf8 words ≡ true

one_more : (word : List ℕ) (words : List (List ℕ)) → IsUtf8 word → AreText words → AreText (word ∷ words)
one_more word words text rest = and_from (is_utf8 word) (list_all is_utf8 words) (is_utf8-from_IsUtf8 word text) rest

-- ---- where a text is cut

take_front : (front rest : List ℕ) → take (length front) (front ++ rest) ≡ front
take_front [] rest = refl
take_front (c ∷ front) rest = ap (λ (s : List ℕ). c ∷ s) (take_front front rest)

drop_front : (front : List ℕ) (c : ℕ) (rest : List ℕ) → drop (length front + 1) (front ++ c ∷ rest) ≡ rest
drop_front [] c rest = refl
drop_front (b ∷ front) c rest =
    let one : length (b ∷ front) + 1 ≡ suc (length front + 1) = omega arith in
    rw one (drop_front front c rest)

cut : (front : List ℕ) (c : ℕ) (rest : List ℕ) → c < 128 → IsUtf8 (front ++ c ∷ rest) → IsUtf8 front × IsUtf8 rest
cut front c rest ascii text =
    let bs : List ℕ = front ++ c ∷ rest in
    let long : length (front ++ c ∷ rest) ≡ length front + length (c ∷ rest) = length-append front (c ∷ rest) in
    let within : length front < length (front ++ c ∷ rest) = omega arith in
    let none : length front + 0 ≡ length front = omega arith in
    let here : get_or (front ++ c ∷ rest) (length front) 0 ≡ c = ap (λ n. get_or (front ++ c ∷ rest) n 0) (sym none)
    ∙ get_or-append-add front (c ∷ rest) 0 0 in
    let low : get_or (front ++ c ∷ rest) (length front) 0 < 128 = omega arith in (
      subst IsUtf8 (take_front front (c ∷ rest)) (IsUtf8-take (front ++ c ∷ rest) (length front) text (IsCharBoundary-before_ascii
          (front ++ c ∷ rest) (length front) within low)),
      subst IsUtf8 (drop_front front c rest) (IsUtf8-drop (front ++ c ∷ rest) (length front + 1) text (IsCharBoundary-after_ascii
          (front ++ c ∷ rest) (length front) text within low)),
    )

blank_is_ascii : (c : ℕ) → is_blank c ≡ true → c < 128
blank_is_ascii c h = by_cases (or_cases (c == 32) (c == 9) h)
  where
    by_cases : ((c == 32) ≡ true) ⊎ ((c == 9) ≡ true) → c < 128
    by_cases (inl e) = let is : c ≡ 32 = eqb-true c 32 e in omega arith
    by_cases (inr e) = let is : c ≡ 9 = eqb-true c 9 e in omega arith

-- ---- byte after byte

-- what was read of a word and what is to be read are text
abbrev IsSound : Standing → List ℕ → Type 0
IsSound Between rest = IsUtf8 rest
IsSound (Plain word) rest = IsUtf8 (word ++ rest)
IsSound (Quoted word) rest = IsUtf8 (word ++ rest)
IsSound (Escaped word) rest = IsUtf8 (word ++ rest)
IsSound (Closed word) rest = IsUtf8 word × IsUtf8 rest

-- what is read from here on is text
abbrev GoesOn : List ℕ → Type 0
GoesOn rest = (at : Standing) (words : List (List ℕ)) → IsSound at rest → words_from at rest ≡ Some words → AreText words

then_text : (word : List ℕ) (read : Option (List (List ℕ))) (words : List (List ℕ)) → IsUtf8 word
    → ((ws : List (List ℕ)) → read ≡ Some ws → AreText ws) → then_words word read ≡ Some words → AreText words
then_text word None words text rest h = absurd (cc)
then_text word (Some ws) words text rest h =
    let same : word ∷ ws ≡ words = cc in
    subst AreText same (one_more word ws text (rest ws refl))

only_word : (word : List ℕ) (words : List (List ℕ)) → IsUtf8 word → Some (word ∷ []) ≡ Some words → AreText words
only_word word words text h =
    let same : word ∷ [] ≡ words = cc in
    subst AreText same (one_more word [] text refl)

longer : (word : List ℕ) (c : ℕ) (rest : List ℕ) → IsUtf8 (word ++ c ∷ rest) → IsUtf8 ((word ++ c ∷ []) ++ rest)
longer word c rest text = subst IsUtf8 (sym (append_assoc word (c ∷ []) rest)) text

between : (c : ℕ) (rest : List ℕ) → GoesOn rest → (words : List (List ℕ)) → IsUtf8 (c ∷ rest)
    → words_from Between (c ∷ rest) ≡ Some words → AreText words
unfolding words_from
between c rest next words text h = by_cases (is_blank c) refl (c == quote) refl h
  where
    by_cases : (b : Bool) → is_blank c ≡ b → (q : Bool) → (c == quote) ≡ q
        → cond b (words_from Between rest) (cond q (words_from (Quoted []) rest) (words_from (Plain (c ∷ [])) rest)) ≡ Some words
        → AreText words
    by_cases true e q f k = next Between words (cut [] c rest (blank_is_ascii c e) text).1 k
    by_cases false e true f k =
        let is : c ≡ 34 = eqb-true c 34 f in
        next (Quoted []) words (cut [] c rest (omega arith) text).1 k
    by_cases false e false f k = next (Plain (c ∷ [])) words text k

plain : (word : List ℕ) (c : ℕ) (rest : List ℕ) → GoesOn rest → (words : List (List ℕ)) → IsUtf8 (word ++ c ∷ rest)
    → words_from (Plain word) (c ∷ rest) ≡ Some words → AreText words
unfolding words_from
plain word c rest next words text h = by_cases (is_blank c) refl (c == quote) refl h
  where
    by_cases : (b : Bool) → is_blank c ≡ b → (q : Bool) → (c == quote) ≡ q
        → cond b (then_words word (words_from Between rest)) (cond q None (words_from (Plain (word ++ c ∷ [])) rest)) ≡ Some words
        → AreText words
    by_cases true e q f k =
        let parts = cut word c rest (blank_is_ascii c e) text in
        then_text word (words_from Between rest) words parts.0 (λ ws read. next Between ws parts.1 read) k
    by_cases false e true f k = absurd (cc)
    by_cases false e false f k = next (Plain (word ++ c ∷ [])) words (longer word c rest text) k

inside : (word : List ℕ) (c : ℕ) (rest : List ℕ) → GoesOn rest → (words : List (List ℕ)) → IsUtf8 (word ++ c ∷ rest)
    → words_from (Quoted word) (c ∷ rest) ≡ Some words → AreText words
unfolding words_from
inside word c rest next words text h = by_cases (c == quote) refl (c == backslash) refl h
  where
    by_cases : (q : Bool) → (c == quote) ≡ q → (b : Bool) → (c == backslash) ≡ b
        → cond q (words_from (Closed word) rest) (cond b (words_from (Escaped word) rest) (words_from (Quoted (word ++ c ∷ []))
        rest)) ≡ Some words → AreText words
    by_cases true e b f k =
        let is : c ≡ 34 = eqb-true c 34 e in
        let parts = cut word c rest (omega arith) text in
        next (Closed word) words (parts.0, parts.1) k
    by_cases false e true f k =
        let is : c ≡ 92 = eqb-true c 92 f in
        let parts = cut word c rest (omega arith) text in
        next (Escaped word) words (IsUtf8-append word rest parts.0 parts.1) k
    by_cases false e false f k = next (Quoted (word ++ c ∷ [])) words (longer word c rest text) k

behind : (word : List ℕ) (c : ℕ) (rest : List ℕ) → GoesOn rest → (words : List (List ℕ)) → IsUtf8 word → IsUtf8 (c ∷ rest)
    → words_from (Closed word) (c ∷ rest) ≡ Some words → AreText words
unfolding words_from
behind word c rest next words read text h = by_cases (is_blank c) refl h
  where
    by_cases : (b : Bool) → is_blank c ≡ b → cond b (then_words word (words_from Between rest)) None ≡ Some words → AreText words
    by_cases true e k = then_text word (words_from Between rest) words read (λ ws more. next Between ws (cut [] c rest
        (blank_is_ascii c e) text).1 more) k
    by_cases false e k = absurd (cc)

from_here : (rest : List ℕ) (at : Standing) (words : List (List ℕ)) → IsSound at rest → words_from at rest ≡ Some words → AreText words
unfolding words_from
from_here [] Between words sound h = let same : [] ≡ words = cc in subst AreText same refl
from_here [] (Plain word) words sound h = only_word word words (subst IsUtf8 (append-nil word) sound) h
from_here [] (Quoted word) words sound h = absurd (cc)
from_here [] (Escaped word) words sound h = absurd (cc)
from_here [] (Closed word) words sound h = only_word word words sound.0 h
from_here (c ∷ rest) Between words sound h = between c rest (from_here rest) words sound h
from_here (c ∷ rest) (Plain word) words sound h = plain word c rest (from_here rest) words sound h
from_here (c ∷ rest) (Quoted word) words sound h = inside word c rest (from_here rest) words sound h
from_here (c ∷ rest) (Escaped word) words sound h = from_here rest (Quoted (word ++ c ∷ [])) words (longer word c rest sound) h
from_here (c ∷ rest) (Closed word) words sound h = behind word c rest (from_here rest) words sound.0 sound.1 h

-- ---- a line

is_text_without_return : (line : List ℕ) → IsUtf8 line → IsUtf8 (without_return line)
unfolding without_return
is_text_without_return [] text = text
is_text_without_return (c ∷ rest) text = by_cases (get_or (c ∷ rest) (length (c ∷ rest) - 1) 0 == carriage_return) refl
  where
    by_cases : (b : Bool) → (get_or (c ∷ rest) (length (c ∷ rest) - 1) 0 == carriage_return) ≡ b
        → IsUtf8 (cond b (take (length (c ∷ rest) - 1) (c ∷ rest)) (c ∷ rest))
    by_cases true e =
        let is : get_or (c ∷ rest) (length (c ∷ rest) - 1) 0 ≡ 13 = eqb-true _ _ e in
        let within : length (c ∷ rest) - 1 < length (c ∷ rest) = omega arith in
        IsUtf8-take (c ∷ rest) (length (c ∷ rest) - 1) text (IsCharBoundary-before_ascii (c ∷ rest) (length (c ∷ rest) - 1)
        within (omega arith))
    by_cases false e = text

pub words_of_text : (line : List ℕ) (words : List (List ℕ)) → is_utf8 line ≡ true → words_of line ≡ Some words
    → list_all is_utf8 words ≡ true
unfolding words_of
words_of_text line words text h =
    from_here (without_return line) Between words (is_text_without_return line (IsUtf8-from_is_utf8 line text)) h
