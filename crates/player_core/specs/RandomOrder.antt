-- Random order: by priority, the greatest first, then by word, then by id.
use Rattle.std.specs.Prelude.{ℕ, Bool, ◌==◌, ◌&&◌, ◌||◌, nat_lt, List, [], ◌∷◌, map, Option, Some, None, if◌then◌else◌}

-- an entry as it is drawn: its id, its priority, its word
abbrev pub Drawn : Type 0
Drawn = ℕ × ℕ × ℕ

abbrev pub goes_before : Drawn → Drawn → Bool
goes_before one other =
    nat_lt other.1 one.1 || (one.1 == other.1 && (nat_lt one.2 other.2 || (one.2 == other.2 && nat_lt one.0 other.0)))

-- an entry is put in front of the first one that it goes before
abbrev pub put_in : Drawn → List Drawn → List Drawn
put_in drawn [] = drawn ∷ []
put_in drawn (other ∷ others) = if goes_before drawn other then drawn ∷ (other ∷ others) else other ∷ put_in drawn others

-- all of them, put in one by one
abbrev pub in_order : List Drawn → List Drawn
in_order [] = []
in_order (drawn ∷ others) = put_in drawn (in_order others)

-- the ids in random order
abbrev pub random_order : List Drawn → List ℕ
random_order drawn = map (λ one. one.0) (in_order drawn)

abbrev pub first_of : List ℕ → Option ℕ
first_of [] = None
first_of (id ∷ ids) = Some id
