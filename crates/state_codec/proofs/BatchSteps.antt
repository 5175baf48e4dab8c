-- A batch change by change: the row of a URI, how many rows there are, what is dropped and what has changed.
use Rattle.std.proofs.Common.{◌≡◌, ℕ, suc, ◌+◌, ◌-◌, ◌<◌, Bool, true, false, cond, ◌||◌, List, [], ◌∷◌, ◌++◌, length, Option, Some, None}
use Rattle.std.proofs.Common.{is_some, take, drop, get_or, nat_lt, refl, sym, ap, ◌∙◌, arith}
use Rattle.std.specs.List.{list_any}
use Rattle.std.specs.Option.{option_to_list}
use Rattle.std.specs.Str.{bytes_eq}
use Rattle.std.proofs.lemmas.List.{take_more, take-append-drop}
use Rattle.std.proofs.Math.Seq.{drop-cons}
use Rattle.song_db.specs.Change.{IsDatabase, has_uri, after_change, after_batch, uri_of}
use Rattle.song_db.specs.Effect.{effect_of, effects_of, put_effect, drop_effect, is_left_out}
use Rattle.song_db.specs.Limits.{MAX_ROWS}
use Rattle.song_db.specs.Row.{Row, row_at}
use Rattle.song_db.specs.Same.{same_row}
use Rattle.song_db.specs.Scan.{drops_of}
use Rattle.song_db.specs.declared.change.RowChange.{RowChange}
use Rattle.song_db.specs.declared.change.RowChange.TheVariants.{Put, Drop}
use Rattle.song_db.specs.declared.effect.Effect.TheVariants.{Nothing, Came, Replaced, LeftOut}
use Rattle.state_codec.specs.RowSteps.{row_left, count_after, changed_first, changed_by}
use Rattle.state_codec.proofs.BatchRows.{AllFit, row_after, length_after, database_batch, batch_more, fit_more, fit_front}
use Rattle.state_codec.proofs.BatchRows.{left_out_at}

or_false : (a b : Bool) → (a || b) ≡ false → (a ≡ false) × (b ≡ false)
or_false true b none = absurd (cc)
or_false false b none = (refl, none)

-- the changes up to one, and it
one_more : (changes : List RowChange) (i : ℕ) (change : RowChange) → i < length changes → change ≡ get_or changes i change
    → take (i + 1) changes ≡ take i changes ++ change ∷ []
one_more changes i change within is = take_more changes i change within ∙ ap (λ c. take i changes ++ c ∷ []) (sym is)

-- of changes none of which is left out, those up to one and it aren't
pub fit_at : (rows : List Row) (changes : List RowChange) (i : ℕ) (change : RowChange) → AllFit rows changes → i < length changes
    → change ≡ get_or changes i change
    → (AllFit rows (take i changes)) × (is_left_out (effect_of (after_batch rows (take i changes)) change) ≡ false)
fit_at rows changes i change fit within is =
    let front : AllFit rows (take (i + 1) changes) =
    fit_front rows (take (i + 1) changes) (drop (i + 1) changes) (rw (take-append-drop (i + 1) changes) fit) in
    let more : list_any is_left_out (effects_of rows (take i changes ++ change ∷ [])) ≡ false =
    rw (one_more changes i change within is) at front in
    or_false _ _ (sym (fit_more rows (take i changes) change) ∙ more)

-- the row of a URI behind one change more
pub row_step : (rows : List Row) (changes : List RowChange) (i : ℕ) (change : RowChange) (uri : List ℕ) → IsDatabase rows
    → AllFit rows changes → i < length changes → change ≡ get_or changes i change
    → row_at (after_batch rows (take (i + 1) changes)) uri
    ≡ cond (bytes_eq uri (uri_of change)) (row_left change) (row_at (after_batch rows (take i changes)) uri)
row_step rows changes i change uri database fit within is =
    let before = after_batch rows (take i changes) in
    ap (λ cs. row_at (after_batch rows cs) uri) (one_more changes i change within is)
    ∙ ap (λ rs. row_at rs uri) (batch_more rows (take i changes) (change ∷ []))
    ∙ row_after before change uri (database_batch rows (take i changes) database) (fit_at rows changes i change fit within is).1

-- the count of the rows after a change, unless it is left out
count_put : (rows : List Row) (row : Row) (n : ℕ) (o : Option Row)
    → (is_left_out (put_effect rows row o) ≡ false → n + cond (is_some o) 1 0 ≡ 1 + length rows)
    → count_after (length rows) (is_some o) (Put row) ≡ cond (is_left_out (put_effect rows row o)) None (Some n)
count_put rows row n (Some old) long = of (same_row old row) long
  where
    of : (b : Bool) → (is_left_out (cond b Nothing (Replaced old)) ≡ false → n + 1 ≡ 1 + length rows)
        → Some (length rows) ≡ cond (is_left_out (cond b Nothing (Replaced old))) None (Some n)
    of true long = let same : n + 1 ≡ 1 + length rows = long refl in let few : length rows ≡ n = omega arith in ap Some few
    of false long = let same : n + 1 ≡ 1 + length rows = long refl in let few : length rows ≡ n = omega arith in ap Some few
count_put rows row n None long = of (nat_lt (length rows) MAX_ROWS) long
  where
    of : (b : Bool) → (is_left_out (cond b Came (LeftOut row)) ≡ false → n + 0 ≡ 1 + length rows)
        → cond b (Some (length rows + 1)) None ≡ cond (is_left_out (cond b Came (LeftOut row))) None (Some n)
    of true long = let same : n + 0 ≡ 1 + length rows = long refl in let few : length rows + 1 ≡ n = omega arith in ap Some few
    of false long = refl

count_drop : (rows : List Row) (uri : List ℕ) (n : ℕ) (o : Option Row)
    → (is_left_out (drop_effect o) ≡ false → n + cond (is_some o) 1 0 ≡ 0 + length rows)
    → count_after (length rows) (is_some o) (Drop uri) ≡ cond (is_left_out (drop_effect o)) None (Some n)
count_drop rows uri n (Some old) long =
    let same : n + 1 ≡ 0 + length rows = long refl in let few : length rows - 1 ≡ n = omega arith in ap Some few
count_drop rows uri n None long = let same : n + 0 ≡ 0 + length rows = long refl in let few : length rows ≡ n = omega arith in ap Some few

pub count_step : (rows : List Row) (change : RowChange) → IsDatabase rows
    → count_after (length rows) (has_uri rows (uri_of change)) change ≡ cond (is_left_out (effect_of rows change)) None
    (Some (length (after_change rows change)))
count_step rows (Put row) database =
    count_put rows row (length (after_change rows (Put row))) (row_at rows row.uri) (length_after rows (Put row) database)
count_step rows (Drop uri) database =
    count_drop rows uri (length (after_change rows (Drop uri))) (row_at rows uri) (length_after rows (Drop uri) database)

-- what a count says of the change at a place
counted_at : (rows : List Row) (changes : List RowChange) (i : ℕ) (change : RowChange) (count : ℕ) (there : Bool) → IsDatabase rows
    → count ≡ length (after_batch rows (take i changes)) → there ≡ has_uri (after_batch rows (take i changes)) (uri_of change)
    → count_after count there change ≡ cond (is_left_out (effect_of (after_batch rows (take i changes)) change)) None
    (Some (length (after_change (after_batch rows (take i changes)) change)))
counted_at rows changes i change count there database long has =
    rw (long, has) (count_step (after_batch rows (take i changes)) change (database_batch rows (take i changes) database))

-- no count: the change is left out
pub full_at : (rows : List Row) (changes : List RowChange) (i : ℕ) (change : RowChange) (count : ℕ) (there : Bool) → IsDatabase rows
    → i < length changes → change ≡ get_or changes i change → count ≡ length (after_batch rows (take i changes))
    → there ≡ has_uri (after_batch rows (take i changes)) (uri_of change)
    → count_after count there change ≡ None → list_any is_left_out (effects_of rows changes) ≡ true
full_at rows changes i change count there database within is long has none =
    let left : is_left_out (effect_of (after_batch rows (take i changes)) change) ≡ true =
    of _ _ (sym (counted_at rows changes i change count there database long has) ∙ none) in
    let some : list_any is_left_out (effects_of rows (take i changes ++ change ∷ [])) ≡ true =
    fit_more rows (take i changes) change ∙ rw left (or_true _) in
    let front : list_any is_left_out (effects_of rows (take (i + 1) changes)) ≡ true = rw (one_more changes i change within is) some in
    rw (take-append-drop (i + 1) changes) at (left_out_at rows (take (i + 1) changes) (drop (i + 1) changes) front)
  where
    of : (b : Bool) (n : ℕ) → cond b None (Some n) ≡ None → b ≡ true
    of true n none = refl
    of false n none = absurd (cc)

    or_true : (b : Bool) → (b || true) ≡ true
    or_true true = refl
    or_true false = refl

-- a count: the change isn't, and so many rows there are after it
pub counted_on : (rows : List Row) (changes : List RowChange) (i : ℕ) (change : RowChange) (count next : ℕ) (there : Bool) → IsDatabase rows
    → i < length changes → change ≡ get_or changes i change → AllFit rows (take i changes)
    → count ≡ length (after_batch rows (take i changes)) → there ≡ has_uri (after_batch rows (take i changes)) (uri_of change)
    → count_after count there change ≡ Some next → (AllFit rows (take (i + 1) changes))
    × (next ≡ length (after_batch rows (take (i + 1) changes)))
counted_on rows changes i change count next there database within is fit long has some =
    let before = after_batch rows (take i changes) in
    let here = of _ _ (sym (counted_at rows changes i change count there database long has) ∙ some) in (
      rw (one_more changes i change within is, fit_more rows (take i changes) change, fit, here.0) refl,
      sym here.1 ∙ ap length (sym (batch_more rows (take i changes) (change ∷ [])))
          ∙ ap (λ cs. length (after_batch rows cs)) (sym (one_more changes i change within is)),
    )
  where
    of : (b : Bool) (n : ℕ) → cond b None (Some n) ≡ Some next → (b ≡ false) × (n ≡ next)
    of true n some = absurd (cc)
    of false n some = (refl, cc)

drops-append : (a b : List RowChange) → drops_of (a ++ b) ≡ drops_of a ++ drops_of b
drops-append [] b = refl
drops-append (Put row ∷ a) b = drops-append a b
drops-append (Drop uri ∷ a) b = ap (λ uris. uri ∷ uris) (drops-append a b)

pub drops_step : (changes : List RowChange) (i : ℕ) (change : RowChange) → i < length changes → change ≡ get_or changes i change
    → drops_of (take (i + 1) changes) ≡ drops_of (take i changes) ++ drops_of (change ∷ [])
drops_step changes i change within is = ap drops_of (one_more changes i change within is) ∙ drops-append (take i changes) (change ∷ [])

pub changed_step : (before : List Row) (changes : List RowChange) (i : ℕ) (change : RowChange) → i < length changes
    → change ≡ get_or changes i change
    → changed_by before (drop i changes) ≡ option_to_list (changed_first before change (drop (i + 1) changes))
    ++ changed_by before (drop (i + 1) changes)
changed_step before changes i change within is =
    let next : suc i ≡ i + 1 = omega arith in
    let parts : drop i changes ≡ change ∷ drop (i + 1) changes = drop-cons changes i change within
    ∙ ap (λ c. c ∷ drop (suc i) changes) (sym is) ∙ ap (λ n. change ∷ drop n changes) next in
    ap (changed_by before) parts
