-- When a folder is there.
use Rattle.std.proofs.Common.{◌≡◌, ℕ, ◌<◌, true, false, not, List, [], ◌∷◌, length, nat_eq, filter, refl, sym, ap, ◌∙◌, arith}
use Rattle.std.specs.List.{list_any}
use Rattle.std.proofs.lemmas.Bool.Decides.{nat_tests}
use Rattle.song_db.specs.Place.{is_below}
use Rattle.song_db.specs.Row.{Row}
use Rattle.song_db.proofs.BelowOrder.{any-filter}

pub filter_all : {X : Type 0} (xs : List X) → filter (λ _. true) xs ≡ xs
filter_all [] = refl
filter_all (x ∷ xs) = ap (λ l. x ∷ l) (filter_all xs)

pub no_folder : (rows found : List Row) (folder : List ℕ) → found ≡ filter (λ row. is_below folder row.uri) rows
    → length found ≡ 0 → list_any (λ row. is_below folder row.uri) rows ≡ false
no_folder rows found folder is none =
    let count : not (nat_eq (length found) 0) ≡ false = grind (arith, nat_tests) in
    any-filter (λ row. is_below folder row.uri) rows ∙ ap (λ (l : List Row). not (nat_eq (length l) 0)) (sym is) ∙ count

pub some_folder : (rows found : List Row) (folder : List ℕ) → found ≡ filter (λ row. is_below folder row.uri) rows
    → 0 < length found → list_any (λ row. is_below folder row.uri) rows ≡ true
some_folder rows found folder is some =
    let count : not (nat_eq (length found) 0) ≡ true = grind (arith, nat_tests) in
    any-filter (λ row. is_below folder row.uri) rows ∙ ap (λ (l : List Row). not (nat_eq (length l) 0)) (sym is) ∙ count
