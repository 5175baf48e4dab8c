-- What is said of the definitions themselves.
use Rattle.std.specs.Prelude.{◌≡◌, ◌<◌, ◌↔◌, ℕ, List, All, Some}
use Rattle.play_journal.specs.Content.{Content}
use Rattle.play_journal.specs.Pair.{found, IsPair}

-- What is found is what the files say: the one of them that is a whole file, beside which the other doesn't count.
abbrev pub FoundIsSaid : Type 0
FoundIsSaid = (a b : List ℕ) (content : Content) → All (λ byte. byte < 256) a → All (λ byte. byte < 256) b
    → (found a b ≡ Some content) ↔ IsPair a b content
