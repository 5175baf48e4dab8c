-- The first row that passes a test, one row after the other.
use Rattle.std.proofs.Common.{◌≡◌, ℕ, ◌+◌, ◌<◌, ◌≤◌, Bool, true, false, List, map, length, drop, get_or, Some, None, refl, sym, ap, ◌∙◌}
use Rattle.std.specs.Prelude.{Option, option_map}
use Rattle.std.specs.List.{find}
use Rattle.std.proofs.lemmas.List.{at_drop_more, at_drop_all}

-- what the first one says, of rows that stand for those of a table
abbrev pub found_in : {X Y Z : Type 0} → (X → Y) → (Y → Bool) → (Y → Z) → List X → Option Z
found_in stands test says rows = option_map says (find test (map stands rows))

pub row_found : {X Y Z : Type 0} (stands : X → Y) (test : Y → Bool) (says : Y → Z) (rows : List X) (i : ℕ) (d : X) (found : Option Z)
    → i < length rows → test (stands (get_or rows i d)) ≡ true → found_in stands test says (drop i rows) ≡ found
    → Some (says (stands (get_or rows i d))) ≡ found
row_found stands test says rows i d found within passes left =
    sym (at_drop_more (found_in stands test says) rows i d within ∙ rw passes refl) ∙ left

pub row_passed : {X Y Z : Type 0} (stands : X → Y) (test : Y → Bool) (says : Y → Z) (rows : List X) (i : ℕ) (d : X) (found : Option Z)
    → i < length rows → test (stands (get_or rows i d)) ≡ false → found_in stands test says (drop i rows) ≡ found
    → found_in stands test says (drop (i + 1) rows) ≡ found
row_passed stands test says rows i d found within fails left =
    sym (at_drop_more (found_in stands test says) rows i d within ∙ rw fails refl) ∙ left

pub rows_begin : {X Y Z : Type 0} (stands : X → Y) (test : Y → Bool) (says : Y → Z) (rows : List X) (table : List Y)
    → map stands rows ≡ table → found_in stands test says rows ≡ option_map says (find test table)
rows_begin stands test says rows table same = ap (λ t. option_map says (find test t)) same

pub rows_end : {X Y Z : Type 0} (stands : X → Y) (test : Y → Bool) (says : Y → Z) (rows : List X) (i : ℕ) (found : Option Z)
    → length rows ≤ i → found_in stands test says (drop i rows) ≡ found → None ≡ found
rows_end stands test says rows i found past left = sym (at_drop_all (found_in stands test says) rows i past) ∙ left
