-- Lines that stand in one buffer, one behind the other.
use Rattle.std.specs.Prelude.{◌≡◌, ℕ, ◌+◌, ◌≤◌, List, [], ◌∷◌, length, take, drop, Option, None, Some}
use denote.Ref.{Bor}

-- bytes cut into pieces of these lengths
abbrev pub cut : List ℕ → List ℕ → List (List ℕ)
cut [] text = []
cut (n ∷ lengths) text = take n text ∷ cut lengths (drop n text)

abbrev pub total : List ℕ → ℕ
total [] = 0
total (n ∷ lengths) = n + total lengths

abbrev pub opt_line : Option (Bor (List ℕ)) → List (List ℕ)
opt_line None = []
opt_line (Some line) = line.now ∷ []

-- lines of these lengths stand in the text, and none stands behind no line
abbrev pub AreBehind : Option (Bor (List ℕ)) → List ℕ → List ℕ → Type 0
AreBehind None lengths text = lengths ≡ []
AreBehind (Some line) lengths text = total lengths ≤ length text
