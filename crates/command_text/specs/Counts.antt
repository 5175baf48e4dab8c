-- How many arguments a command takes, and what each stands for.
use Rattle.std.specs.Prelude.{ℕ, ◌+◌, List, [], ◌∷◌, Option, Some, None, Result, Ok, Err, codes, if◌then◌else◌}
use Rattle.std.specs.Str.{bytes_eq}
use Rattle.command_text.specs.declared.refusal.CommandRefusal.{CommandRefusal}
use Rattle.command_text.specs.declared.refusal.CommandRefusal.TheVariants.{WrongCount, BadArgument}

infixl 10 ◌>>=◌
abbrev pub ◌>>=◌ : {A B : Type 0} → Result A CommandRefusal → (A → Result B CommandRefusal) → Result B CommandRefusal
(Ok x) >>= f = f x
(Err e) >>= f = Err e

abbrev pub Word : Type 0
Word = List ℕ

-- none, and the command
abbrev pub no_argument : {A : Type 0} → A → List Word → Result A CommandRefusal
no_argument command [] = Ok command
no_argument command (word ∷ words) = Err WrongCount

-- at most one
abbrev pub optional_argument : List Word → Result (Option Word) CommandRefusal
optional_argument [] = Ok None
optional_argument (word ∷ []) = Ok (Some word)
optional_argument (word ∷ another ∷ words) = Err WrongCount

abbrev pub one_argument : List Word → Result Word CommandRefusal
one_argument [] = Err WrongCount
one_argument (word ∷ []) = Ok word
one_argument (word ∷ another ∷ words) = Err WrongCount

-- one, behind which another may stand
abbrev pub one_or_two : List Word → Result (Word × Option Word) CommandRefusal
one_or_two [] = Err WrongCount
one_or_two (a ∷ []) = Ok (a, None)
one_or_two (a ∷ b ∷ []) = Ok (a, Some b)
one_or_two (a ∷ b ∷ c ∷ words) = Err WrongCount

abbrev pub two_arguments : List Word → Result (Word × Word) CommandRefusal
two_arguments [] = Err WrongCount
two_arguments (a ∷ []) = Err WrongCount
two_arguments (a ∷ b ∷ []) = Ok (a, b)
two_arguments (a ∷ b ∷ c ∷ words) = Err WrongCount

-- two, behind which another may stand
abbrev pub two_or_three : List Word → Result (Word × (Word × Option Word)) CommandRefusal
two_or_three [] = Err WrongCount
two_or_three (a ∷ []) = Err WrongCount
two_or_three (a ∷ b ∷ []) = Ok (a, (b, None))
two_or_three (a ∷ b ∷ c ∷ []) = Ok (a, (b, Some c))
two_or_three (a ∷ b ∷ c ∷ d ∷ words) = Err WrongCount

abbrev pub three_arguments : List Word → Result (Word × (Word × Word)) CommandRefusal
three_arguments [] = Err WrongCount
three_arguments (a ∷ []) = Err WrongCount
three_arguments (a ∷ b ∷ []) = Err WrongCount
three_arguments (a ∷ b ∷ c ∷ []) = Ok (a, (b, c))
three_arguments (a ∷ b ∷ c ∷ d ∷ words) = Err WrongCount

-- one at least, and the others behind the first two
abbrev pub one_to_three : List Word → Result (Word × (Option Word × Option Word)) CommandRefusal
one_to_three [] = Err WrongCount
one_to_three (a ∷ []) = Ok (a, (None, None))
one_to_three (a ∷ b ∷ []) = Ok (a, (Some b, None))
one_to_three (a ∷ b ∷ c ∷ []) = Ok (a, (Some b, Some c))
one_to_three (a ∷ b ∷ c ∷ d ∷ words) = Err WrongCount

-- one, and one more at least
abbrev pub one_and_more : List Word → Result (Word × List Word) CommandRefusal
one_and_more [] = Err WrongCount
one_and_more (a ∷ []) = Err WrongCount
one_and_more (a ∷ b ∷ words) = Ok (a, b ∷ words)

-- what the argument in this place, counted from 1, stands for
abbrev pub argument : {A : Type 0} → ℕ → Option A → Result A CommandRefusal
argument place (Some value) = Ok value
argument place None = Err (BadArgument place)

-- the same of one that may be absent
abbrev pub optional : {A : Type 0} → ℕ → (Word → Option A) → Option Word → Result (Option A) CommandRefusal
optional place read None = Ok None
optional place read (Some word) = argument place (read word) >>= λ value. Ok (Some value)

-- `-1` counts as no argument
abbrev pub unless_minus_one : Option Word → Option Word
unless_minus_one None = None
unless_minus_one (Some word) = if bytes_eq word (codes "-1") then None else Some word

-- each of the arguments from this place on
unfoldable pub each : {A : Type 0} → (Word → Option A) → ℕ → List Word → Result (List A) CommandRefusal
each read place [] = Ok []
each read place (word ∷ words) = do
  x ← argument place (read word)
  xs ← each read (place + 1) words
  Ok (x ∷ xs)
