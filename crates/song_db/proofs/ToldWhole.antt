-- The songs are told each once, and no others.
use Rattle.std.proofs.Common.{◌≡◌, ℕ, suc, Bool, List, [], ◌∷◌, filter, length, None, refl, sym, ap, ◌∙◌}
use Rattle.std.specs.Prelude.{count_by}
use Rattle.std.specs.declared.cmp.Ordering.{Ordering}
use Rattle.std.specs.declared.cmp.Ordering.TheVariants.{Less, Equal, Greater}
use Rattle.std.specs.Ordering.{match_ordering}
use Rattle.std.proofs.lemmas.List.Kept.{IsStrictlySortedBy-filter}
use Rattle.std.proofs.lemmas.List.Sums.{length-filter}
use Rattle.std.proofs.lemmas.Map.Keys.{sorted_head, sorted_tail}
use Rattle.song_db.specs.Replaced.{by_text, IsRising, replaced}
use Rattle.song_db.specs.Row.{Row, row_at, row_uri}
use Rattle.song_db.specs.Told.{told_key, told_order}
use Rattle.song_db.proofs.Rising.{texts}
use Rattle.song_db.proofs.ToldOrder.{none_went, passing}
use Rattle.song_db.proofs.Turns.{none_behind}

-- a song that comes is one more than where none comes in its place
one_more : (key : List ℕ) (row : Row) (rows : List Row)
    → length (replaced told_key key (row ∷ []) rows) ≡ suc (length (replaced told_key key [] rows))
one_more key row [] = refl
one_more key row (x ∷ xs) = by_cases (texts key (told_key x)) (one_more key row xs)
  where
    by_cases : (o : Ordering) → length (replaced told_key key (row ∷ []) xs) ≡ suc (length (replaced told_key key [] xs))
        → length (match_ordering o (row ∷ x ∷ xs) (row ∷ xs) (x ∷ replaced told_key key (row ∷ []) xs))
        ≡ suc (length (match_ordering o (x ∷ xs) xs (x ∷ replaced told_key key [] xs)))
    by_cases Less rest = refl
    by_cases Equal rest = refl
    by_cases Greater rest = ap suc rest

told_length : (rows : List Row) → IsRising row_uri rows → length (told_order rows) ≡ length rows
told_length [] rising = refl
told_length (row ∷ rows) rising =
    let none : row_at rows row.uri ≡ None = none_behind row.uri rows (sorted_head (by_text row_uri) row rows rising) in
    one_more (told_key row) row (told_order rows)
    ∙ ap (λ (l : List Row). suc (length l)) (none_went row rows none)
    ∙ ap suc (told_length rows (sorted_tail (by_text row_uri) row rows rising))

-- of whatever songs are asked for, as many are told as there are
pub told_counts : (passes : Row → Bool) (rows : List Row) → IsRising row_uri rows
    → count_by passes (told_order rows) ≡ count_by passes rows
told_counts passes rows rising =
    sym (length-filter passes (told_order rows)) ∙ ap length (passing passes rows rising)
    ∙ told_length (filter passes rows) (IsStrictlySortedBy-filter (by_text row_uri) passes rows rising)
    ∙ length-filter passes rows
