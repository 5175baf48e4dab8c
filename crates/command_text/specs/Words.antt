-- How a line parts into words: the grammar, by cases on the words and their bytes, and the words that a line has.
use Rattle.std.specs.Prelude.{◌≡◌, ◌≢◌, ◌⊎◌, ℕ, ◌-◌, ◌<◌, List, [], ◌∷◌, ◌++◌, length, take, Bool, ◌||◌, ◌&&◌, ◌==◌, not, IsTrue}
use Rattle.std.specs.Prelude.{Option, Some, None, Result, Ok, Err, slice_index, if◌then◌else◌}
use Rattle.std.specs.Option.{option_map}
use Rattle.std.specs.List.{list_all}
use Rattle.command_text.specs.declared.words.WordsError.{WordsError}
use Rattle.command_text.specs.declared.words.WordsError.TheVariants.{BadQuoting, NoMemory}

-- a double quote, a backslash and a carriage return
abbrev pub quote : ℕ
quote = 34

abbrev pub backslash : ℕ
backslash = 92

abbrev pub carriage_return : ℕ
carriage_return = 13

-- a space or a tab
abbrev pub is_blank : ℕ → Bool
is_blank c = c == 32 || c == 9

-- what may stand in a word without quotes; a backslash and a carriage return may
abbrev pub is_plain : ℕ → Bool
is_plain c = not (is_blank c) && not (c == quote)

-- A word without quotes: its own bytes, at least one.
pub record IsPlainWord (text word : List ℕ) : Type 0 where
  pub same : text ≡ word
  pub nonempty : 0 < length word
  pub plain : IsTrue (list_all is_plain word)

-- Between quotes a byte stands for itself, but for a quote and a backslash, and any byte may stand behind a backslash.
abbrev pub Escapes : List ℕ → List ℕ → Type 0
Escapes [] inside = inside ≡ []
Escapes (c ∷ word) inside =
    (rest : List ℕ) × Escapes word rest
    × (((inside ≡ c ∷ rest) × (c ≢ quote) × (c ≢ backslash)) ⊎ (inside ≡ backslash ∷ c ∷ rest))

-- A word in quotes; it may be empty.
abbrev pub IsQuotedWord : List ℕ → List ℕ → Type 0
IsQuotedWord text word = (inside : List ℕ) × Escapes word inside × (text ≡ quote ∷ inside ++ quote ∷ [])

-- Behind a word stands a blank, or nothing.
abbrev pub EndsWord : List ℕ → Type 0
EndsWord [] = Unit {0}
EndsWord (c ∷ rest) = IsTrue (is_blank c)

-- The bytes are blanks, a word and the rest.
pub record BeginsWith (bytes word rest : List ℕ) : Type 0 where
  pub gap : List ℕ
  pub text : List ℕ
  pub parts : bytes ≡ gap ++ (text ++ rest)
  pub blanks : IsTrue (list_all is_blank gap)
  pub spells : IsPlainWord text word ⊎ IsQuotedWord text word
  pub ends : EndsWord rest

-- Bytes that part into words: blanks may stand around each word, and one must stand between two.
abbrev pub AreWords : List ℕ → List (List ℕ) → Type 0
AreWords bytes [] = IsTrue (list_all is_blank bytes)
AreWords bytes (word ∷ words) = (rest : List ℕ) × BeginsWith bytes word rest × AreWords rest words

-- A line without the carriage return that may stand at its end.
unfoldable pub without_return : List ℕ → List ℕ
without_return line =
    if slice_index line (length line - 1) == carriage_return then take (length line - 1) line else line

-- The words of a line; a line has at most one such list, and `words_of` gives it.
abbrev pub AreWordsOfLine : List ℕ → List (List ℕ) → Type 0
AreWordsOfLine line words = AreWords (without_return line) words

-- Where a byte stands: between words, or in or right behind a word of which these bytes were read.
pub data Standing : Type 0 where
  Between : Standing
  Plain : List ℕ → Standing
  Quoted : List ℕ → Standing
  Escaped : List ℕ → Standing
  Closed : List ℕ → Standing

-- A word, and the words behind it if they can be read.
abbrev pub then_words : List ℕ → Option (List (List ℕ)) → Option (List (List ℕ))
then_words word read = option_map (λ words. word ∷ words) read

-- The words from here on; none where the quoting is bad.
unfoldable pub words_from : Standing → List ℕ → Option (List (List ℕ))
words_from Between [] = Some []
words_from Between (c ∷ rest) =
    if is_blank c then words_from Between rest
    else (if c == quote then words_from (Quoted []) rest else words_from (Plain (c ∷ [])) rest)
words_from (Plain word) [] = Some (word ∷ [])
words_from (Plain word) (c ∷ rest) =
    if is_blank c then then_words word (words_from Between rest)
    else (if c == quote then None else words_from (Plain (word ++ c ∷ [])) rest)
words_from (Quoted word) [] = None
words_from (Quoted word) (c ∷ rest) =
    if c == quote then words_from (Closed word) rest
    else (if c == backslash then words_from (Escaped word) rest else words_from (Quoted (word ++ c ∷ [])) rest)
words_from (Escaped word) [] = None
words_from (Escaped word) (c ∷ rest) = words_from (Quoted (word ++ c ∷ [])) rest
words_from (Closed word) [] = Some (word ∷ [])
words_from (Closed word) (c ∷ rest) = if is_blank c then then_words word (words_from Between rest) else None

-- The words of a line, or none where its quoting is bad.
unfoldable pub words_of : List ℕ → Option (List (List ℕ))
words_of line = words_from Between (without_return line)

-- A call gave these words, or said that the quoting is bad, or found no memory.
abbrev pub GivesWords : {A : Type 0} → (A → List (List ℕ)) → Result A WordsError → Option (List (List ℕ)) → Type 0
GivesWords view (Ok value) read = read ≡ Some (view value)
GivesWords view (Err BadQuoting) read = read ≡ None
GivesWords view (Err NoMemory) read = Unit {0}

abbrev pub number_of_words_error : WordsError → ℕ
number_of_words_error BadQuoting = 35
number_of_words_error NoMemory = 7
