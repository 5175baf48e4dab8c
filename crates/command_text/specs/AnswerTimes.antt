-- Times, from frames.
use Rattle.std.specs.Prelude.{ℕ, ◌+◌, ◌*◌, ◌/◌, ◌%◌, List, [], ◌∷◌, ◌++◌, codes}
use Rattle.std.specs.Fmt.{decimal}

-- how many milliseconds so many frames take at a rate of frames a second, rounded down
abbrev pub milliseconds_at : ℕ → ℕ → ℕ
milliseconds_at rate frames = frames * 1000 / rate

-- milliseconds as whole seconds, rounded down
abbrev pub whole_seconds : ℕ → List ℕ
whole_seconds milliseconds = decimal (milliseconds / 1000)

-- a number below 1000 in three digits
abbrev pub three_digits : ℕ → List ℕ
three_digits number = (48 + number / 100) ∷ (48 + number / 10 % 10) ∷ (48 + number % 10) ∷ []

-- milliseconds as seconds with three decimals
abbrev pub exact_seconds : ℕ → List ℕ
exact_seconds milliseconds = whole_seconds milliseconds ++ (codes "." ++ three_digits (milliseconds % 1000))
