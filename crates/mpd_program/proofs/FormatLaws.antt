-- How often a list of values has a text.
use Rattle.std.proofs.Common.{◌≡◌, ℕ, suc, List, [], ◌∷◌, count_by, length, refl, ap}
use Rattle.std.proofs.lemmas.List.Recursion.{is_count_by}
use Rattle.toml.specs.View.{items_view, view}
use Rattle.toml.specs.declared.value.Value.{Value}
use Rattle.mpd_program.specs.Configuration.{count_of, is_text, value_count}

pub count_of_items : (name : List ℕ) (values : List Value)
    → count_of name (items_view values) ≡ count_by (λ value. is_text name (view value)) values
count_of_items name =
    is_count_by (λ values. count_of name (items_view values)) (λ value. is_text name (view value)) refl (λ value values. refl)

pub count_of_values : (values : List Value) → value_count (items_view values) ≡ length values
count_of_values [] = refl
count_of_values (value ∷ values) = ap suc (count_of_values values)
