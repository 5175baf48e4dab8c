-- Numbers at the beginning of texts, and those that tracks and discs have.
use Rattle.std.specs.Prelude.{ℕ, ◌^◌, ◌==◌, ◌&&◌, not, nat_lt, min, Bool, List, [], ◌∷◌, length, Option, Some, None, if◌then◌else◌}
use Rattle.std.specs.Char.{is_ascii_digit}
use Rattle.std.specs.List.{list_all}
use Rattle.std.specs.Str.Parse.{digits_value}

-- one decimal digit at least, and nothing else
abbrev pub are_digits : List ℕ → Bool
are_digits word = not (length word == 0) && list_all is_ascii_digit word

-- the number that decimal digits stand for, below 2^64
unfoldable pub digits_of : List ℕ → Option ℕ
digits_of word =
    if are_digits word && nat_lt (digits_value 10 word) (2 ^ 64) then Some (digits_value 10 word) else None

-- the digits that a text begins with
abbrev pub digits_in_front : List ℕ → List ℕ
digits_in_front [] = []
digits_in_front (b ∷ text) = if is_ascii_digit b then b ∷ digits_in_front text else []

-- the number that a text begins with, 0 where there is none, and at most the last below 2^64
abbrev pub number_in : Option (List ℕ) → ℕ
number_in None = 0
number_in (Some text) = min (digits_value 10 (digits_in_front text)) 18446744073709551615

abbrev pub without_zeros : List ℕ → List ℕ
without_zeros [] = []
without_zeros (b ∷ text) = if b == 48 then without_zeros text else b ∷ text

-- what is told of a text that should be a number: its first digits, without zeros in front
abbrev pub number_text : List ℕ → List ℕ
number_text text = digits_in_front (without_zeros text)
