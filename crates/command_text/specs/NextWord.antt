-- What stands next in a line, and what the inside of quotes stands for.
use Rattle.std.specs.Prelude.{◌≡◌, ℕ, ◌+◌, ◌<◌, List, [], ◌∷◌, length, take, drop, Bool, true, false, ◌==◌, Option, Some, None}
use Rattle.std.specs.Prelude.{if◌then◌else◌}
use Rattle.command_text.specs.declared.words.WordText.{WordText}
use Rattle.command_text.specs.declared.words.WordText.TheVariants.{Bare, Inside}
use Rattle.command_text.specs.declared.words.Next.{Next}
use Rattle.command_text.specs.declared.words.Next.TheVariants.{End, Found, Bad}
use Rattle.command_text.specs.Words.{backslash, words_from, then_words}
use Rattle.command_text.specs.Words.Standing.{Between, Quoted, Closed}

-- The bytes that the inside of quotes stands for; the flag says that a backslash went before.
unfoldable pub unescaped_from : Bool → List ℕ → List ℕ
unescaped_from escaped [] = []
unescaped_from true (c ∷ rest) = c ∷ unescaped_from false rest
unescaped_from false (c ∷ rest) =
    if c == backslash then unescaped_from true rest else c ∷ unescaped_from false rest

abbrev pub unescaped : List ℕ → List ℕ
unescaped inside = unescaped_from false inside

-- The word that stands so in a line.
abbrev pub spelled : WordText → List ℕ
spelled (Bare text) = text.now
spelled (Inside text) = unescaped text.now

-- The inside of quotes ends at this place.
pub record IsClosedAt (inside : List ℕ) (place : ℕ) : Type 0 where
  pub within : place < length inside
  pub closed : words_from (Quoted []) inside ≡ words_from (Closed (unescaped (take place inside))) (drop (place + 1) inside)

-- What stands next in some bytes, of which the words are known: nothing, a word and the rest behind it, or bad quoting.
abbrev pub IsNextOf : Option (List (List ℕ)) → List ℕ → Next → Type 0
IsNextOf words bytes End = words ≡ Some []
IsNextOf words bytes (Found word rest) =
    (words ≡ then_words (spelled word) (words_from Between rest.now)) × (length rest.now < length bytes)
IsNextOf words bytes Bad = words ≡ None

abbrev pub IsNext : List ℕ → Next → Type 0
IsNext bytes next = IsNextOf (words_from Between bytes) bytes next

-- The same behind a first quote.
abbrev pub IsNextInQuotes : List ℕ → Next → Type 0
IsNextInQuotes inside next = IsNextOf (words_from (Quoted []) inside) inside next
