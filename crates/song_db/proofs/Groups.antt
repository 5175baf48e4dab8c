-- The rows of a value, one of which comes or goes.
use Rattle.std.proofs.Common.{◌≡◌, ℕ, true, List, [], ◌∷◌, ◌++◌, None, refl, sym, ap, ◌∙◌}
use Rattle.std.specs.declared.cmp.Ordering.TheVariants.{Less, Greater}
use Rattle.std.specs.Cmp.Lexicographic.{nat_list_cmp_total}
use Rattle.std.specs.Ordering.{ordering_reverse}
use Rattle.std.proofs.lemmas.List.{set_split}
use Rattle.std.proofs.lemmas.Map.Keys.{sorted_head, sorted_tail}
use Rattle.std.proofs.Math.ListN.{set}
use Rattle.song_db.specs.Last.{ends_before}
use Rattle.song_db.specs.Replaced.{by_text, IsRising, replaced, IsPlaceOf}
use Rattle.song_db.specs.Row.{Row, row_at, row_uri}
use Rattle.song_db.specs.ValueIndex.{Comes, IsIndex}
use Rattle.song_db.specs.declared.value_index.TagValues.{TagValues}
use Rattle.song_db.proofs.Rising.{apart_less, texts, less_is}

-- the first of some rows is before a URI that the last one is before
first_before : (x : Row) (rows : List Row) (uri : List ℕ) → IsRising row_uri (x ∷ rows) → ends_before (x ∷ rows) uri ≡ true
    → texts x.uri uri ≡ Less
first_before x [] uri rising before = less_is (texts x.uri uri) before
first_before x (y ∷ ys) uri rising before =
    nat_list_cmp_total.trans x.uri y.uri uri (sorted_head (by_text row_uri) x (y ∷ ys) rising).0
    (first_before y ys uri (sorted_tail (by_text row_uri) x (y ∷ ys) rising) before)

-- a row that stands behind all others
pub last_replaced : (rows : List Row) (row : Row) → IsRising row_uri rows → ends_before rows row.uri ≡ true
    → replaced row_uri row.uri (row ∷ []) rows ≡ rows ++ row ∷ []
last_replaced [] row rising before = refl
last_replaced (x ∷ []) row rising before =
    let passed : texts row.uri x.uri ≡ Greater = nat_list_cmp_total.antisymm row.uri x.uri
    ∙ ap ordering_reverse (first_before x [] row.uri rising before) in
    rw passed refl
last_replaced (x ∷ y ∷ ys) row rising before =
    let passed : texts row.uri x.uri ≡ Greater = nat_list_cmp_total.antisymm row.uri x.uri
    ∙ ap ordering_reverse (first_before x (y ∷ ys) row.uri rising before) in
    let rest : replaced row_uri row.uri (row ∷ []) (y ∷ ys) ≡ (y ∷ ys) ++ row ∷ []
    = last_replaced (y ∷ ys) row (sorted_tail (by_text row_uri) x (y ∷ ys) rising) before in
    rw passed (ap (λ l. x ∷ l) rest)

-- a row that takes the place of another
pub set_replaced : (rows : List Row) (row : Row) (at : ℕ) → IsPlaceOf row_uri row.uri rows at
    → set rows at row ≡ replaced row_uri row.uri (row ∷ []) rows
set_replaced rows row at place = set_split rows at row place.within ∙ sym (place.gives_way (row ∷ []))

-- and had no row of its URI before
pub none_last : (rows : List Row) (uri : List ℕ) → IsRising row_uri rows → ends_before rows uri ≡ true → row_at rows uri ≡ None
none_last [] uri rising before = refl
none_last (x ∷ []) uri rising before = rw (apart_less x.uri uri (first_before x [] uri rising before)) refl
none_last (x ∷ y ∷ ys) uri rising before =
    let rest : row_at (y ∷ ys) uri ≡ None = none_last (y ∷ ys) uri (sorted_tail (by_text row_uri) x (y ∷ ys) rising) before in
    rw (apart_less x.uri uri (first_before x (y ∷ ys) uri rising before)) rest

-- the index with a row behind the last one
pub indexed_last : (rows : List Row) (row : Row) (before after : List TagValues) → IsRising row_uri rows
    → ends_before rows row.uri ≡ true → Comes row before after → IsIndex rows before → IsIndex (rows ++ row ∷ []) after
indexed_last rows row before after rising ends comes is =
    rw (← last_replaced rows row rising ends) (comes rows rising (none_last rows row.uri rising ends) is)
