-- The parts of an expression's text, each with what stands behind it, or the first fault from the left.
use Rattle.std.specs.Prelude.{ℕ, Bool, true, false, ◌==◌, ◌||◌, List, [], ◌∷◌, length, Result, Ok, Err, Option, Some, None, if◌then◌else◌}
use Rattle.std.specs.Char.{to_ascii_lowercase}
use Rattle.std.specs.Str.{is_utf8}
use Rattle.profile.specs.declared.profile.Profile.{Profile}
use Rattle.filter_expr.specs.declared.name.Key.{Key}
use Rattle.filter_expr.specs.Names.{key_named}

-- A fault, with how many bytes stand from it to the end of the text: no expression goes on so, the tag of this name is unknown, or one
-- parenthesis more is open than may be.
pub data Fault : Type 0 where
  Bad : ℕ → Fault
  Unknown : List ℕ → Fault
  Deep : ℕ → Fault

infixl 10 ◌>>=◌
abbrev pub ◌>>=◌ : {A B : Type 0} → Result A Fault → (A → Result B Fault) → Result B Fault
(Ok x) >>= f = f x
(Err e) >>= f = Err e

abbrev pub opening : ℕ
opening = 40

abbrev pub closing : ℕ
closing = 41

abbrev pub exclamation : ℕ
exclamation = 33

abbrev pub equals_sign : ℕ
equals_sign = 61

abbrev pub tilde : ℕ
tilde = 126

abbrev pub backslash : ℕ
backslash = 92

-- a space or a tab
abbrev pub is_blank : ℕ → Bool
is_blank b = b == 32 || b == 9

-- a single or a double quote
abbrev pub is_quote : ℕ → Bool
is_quote b = b == 39 || b == 34

-- what a name doesn't have
abbrev pub ends_name : ℕ → Bool
ends_name b = is_blank b || b == opening || b == closing || is_quote b || b == equals_sign || b == exclamation

abbrev pub begins_so : ℕ → List ℕ → Bool
begins_so byte [] = false
begins_so byte (b ∷ text) = b == byte

unfoldable pub without_blanks : List ℕ → List ℕ
without_blanks [] = []
without_blanks (b ∷ text) = if is_blank b then without_blanks text else b ∷ text

-- this byte
unfoldable pub byte_at : ℕ → List ℕ → Result (List ℕ) Fault
byte_at byte [] = Err (Bad 0)
byte_at byte (b ∷ text) = if b == byte then Ok text else Err (Bad (length (b ∷ text)))

-- these bytes
unfoldable pub word_at : List ℕ → List ℕ → Result (List ℕ) Fault
word_at [] text = Ok text
word_at (b ∷ word) text = do
  rest ← byte_at b text
  word_at word rest

-- this lowercase letter, in any case
unfoldable pub letter_at : ℕ → List ℕ → Result (List ℕ) Fault
letter_at letter [] = Err (Bad 0)
letter_at letter (b ∷ text) = if to_ascii_lowercase b == letter then Ok text else Err (Bad (length (b ∷ text)))

-- these lowercase letters
unfoldable pub letters_at : List ℕ → List ℕ → Result (List ℕ) Fault
letters_at [] text = Ok text
letters_at (b ∷ word) text = do
  rest ← letter_at b text
  letters_at word rest

-- one blank at least
unfoldable pub gap_at : List ℕ → Result (List ℕ) Fault
gap_at [] = Err (Bad 0)
gap_at (b ∷ text) = if is_blank b then Ok (without_blanks text) else Err (Bad (length (b ∷ text)))

-- a word between blanks
unfoldable pub between_gaps : List ℕ → List ℕ → Result (List ℕ) Fault
between_gaps word text = do
  inner ← gap_at text
  rest ← word_at word inner
  gap_at rest

-- the name in front, and what stands behind it
unfoldable pub name_in : List ℕ → List ℕ
name_in [] = []
name_in (b ∷ text) = if ends_name b then [] else b ∷ name_in text

unfoldable pub behind_name : List ℕ → List ℕ
behind_name [] = []
behind_name (b ∷ text) = if ends_name b then b ∷ text else behind_name text

-- what a name names
abbrev pub key_found : Option Key → List ℕ → List ℕ → Result (Key × List ℕ) Fault
key_found None name behind = Err (Unknown name)
key_found (Some key) name behind = Ok (key, behind)

abbrev pub key_from : Profile → List ℕ → List ℕ → Result (Key × List ℕ) Fault
key_from profile [] behind = Err (Bad (length behind))
key_from profile (b ∷ name) behind = key_found (key_named profile (b ∷ name)) (b ∷ name) behind

unfoldable pub key_at : Profile → List ℕ → Result (Key × List ℕ) Fault
key_at profile text = key_from profile (name_in text) (behind_name text)

-- a byte in front of what is read behind it
abbrev pub with_front : ℕ → Result (List ℕ × List ℕ) Fault → Result (List ℕ × List ℕ) Fault
with_front b read = read >>= λ x. Ok (b ∷ x.0, x.1)

-- Up to the closing quote. A backslash stands for the byte behind it; the flag says that one went before.
unfoldable pub quoted : ℕ → Bool → List ℕ → Result (List ℕ × List ℕ) Fault
quoted quote escaped [] = Err (Bad 0)
quoted quote true (b ∷ text) = with_front b (quoted quote false text)
quoted quote false (b ∷ text) =
    if b == quote then Ok ([], text)
    else (if b == backslash then quoted quote true text else with_front b (quoted quote false text))

-- a value in quotes, which is UTF-8
unfoldable pub value_at : List ℕ → Result (List ℕ × List ℕ) Fault
value_at [] = Err (Bad 0)
value_at (b ∷ text) =
    if is_quote b then (quoted b false text >>= λ x. if is_utf8 x.0 then Ok x else Err (Bad (length (b ∷ text))))
    else Err (Bad (length (b ∷ text)))
