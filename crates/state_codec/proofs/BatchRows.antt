-- What a change of a batch leaves under each URI.
use Rattle.std.proofs.Common.{◌≡◌, ℕ, ◌+◌, Bool, true, false, cond, ◌||◌, List, [], ◌∷◌, ◌++◌, length, Option, Some, None, is_some, nat_lt}
use Rattle.std.proofs.Common.{refl, sym, ap, ◌∙◌, arith}
use Rattle.std.specs.declared.cmp.Ordering.{Ordering}
use Rattle.std.specs.declared.cmp.Ordering.TheVariants.{Less, Equal, Greater}
use Rattle.std.specs.Ordering.{match_ordering}
use Rattle.std.specs.List.{list_any}
use Rattle.std.specs.Str.{bytes_eq}
use Rattle.std.proofs.lemmas.Slice.Eq.{bytes_eq-Decides}
use Rattle.std.proofs.lemmas.Map.Keys.{sorted_head, sorted_tail}
use Rattle.std.proofs.lemmas.Map.Text.{is_eq-slice_cmp}
use Rattle.std.specs.Ordering.{is_eq}
use Rattle.song_db.specs.Change.{IsDatabase, changed, has_uri, after_change, after_batch, uri_of, rows_of}
use Rattle.song_db.specs.Effect.{effect_of, effects_of, put_effect, is_left_out}
use Rattle.song_db.specs.declared.effect.Effect.TheVariants.{Came, LeftOut}
use Rattle.std.proofs.lemmas.List.{length-append}
use Rattle.std.proofs.lemmas.List.Folds.{list_any-append}
use Rattle.song_db.specs.Limits.{MAX_ROWS}
use Rattle.song_db.specs.Replaced.{by_text, IsRising}
use Rattle.song_db.specs.Row.{Row, row_uri, row_at}
use Rattle.song_db.specs.declared.change.RowChange.{RowChange}
use Rattle.song_db.specs.declared.change.RowChange.TheVariants.{Put, Drop}
use Rattle.song_db.proofs.Batches.{AreBehind, behind_trans, flip}
use Rattle.song_db.proofs.Rising.{texts, apart_less, apart_greater}
use Rattle.song_db.proofs.Turns.{none_behind, database_after}
use Rattle.state_codec.specs.RowSteps.{row_left}

same_bytes : (a b : List ℕ) → bytes_eq a b ≡ true → a ≡ b
same_bytes a b same = (bytes_eq-Decides a b).0 same

-- which of two texts it is
pub same_or_not : (a b : List ℕ) (b1 : Bool) → bytes_eq a b ≡ b1 → bytes_eq b a ≡ b1
same_or_not a b true same = (bytes_eq-Decides b a).1 (sym (same_bytes a b same))
same_or_not a b false other = of (bytes_eq b a) refl
  where
    of : (c : Bool) → bytes_eq b a ≡ c → bytes_eq b a ≡ false
    of true same = let turned : bytes_eq a b ≡ true = (bytes_eq-Decides a b).1 (sym (same_bytes b a same)) in absurd (cc)
    of false other = other

-- what stands under a URI where something new takes the place of what stood under a key
pub replaced_row : (change : RowChange) (rows : List Row) (uri : List ℕ) → IsRising row_uri rows
    → row_at (changed change rows) uri ≡ cond (bytes_eq uri (uri_of change)) (row_left change) (row_at rows uri)
replaced_row (Put row) [] uri rising = of (bytes_eq uri row.uri)
  where
    of : (b : Bool) → ◌≡◌ {A = Option Row} (cond b (Some row) None) (cond b (Some row) None)
    of b = refl
replaced_row (Drop key) [] uri rising = of (bytes_eq uri key)
  where
    of : (b : Bool) → ◌≡◌ {A = Option Row} None (cond b None None)
    of true = refl
    of false = refl
replaced_row change (x ∷ xs) uri rising =
    by_order (texts (uri_of change) x.uri) refl (replaced_row change xs uri (sorted_tail (by_text row_uri) x xs rising))
  where
    behind : AreBehind row_uri x.uri xs
    behind = sorted_head (by_text row_uri) x xs rising

    -- in front of what doesn't have the key
    front : (others : List Row) → (bytes_eq uri (uri_of change) ≡ true → row_at others uri ≡ None)
        → row_at (rows_of change ++ others) uri ≡ cond (bytes_eq uri (uri_of change)) (row_left change) (row_at others uri)
    front others none = by_change change none
      where
        by_change : (c : RowChange) → (bytes_eq uri (uri_of c) ≡ true → row_at others uri ≡ None)
            → row_at (rows_of c ++ others) uri ≡ cond (bytes_eq uri (uri_of c)) (row_left c) (row_at others uri)
        by_change (Put row) none = of (bytes_eq uri row.uri)
          where
            of : (b : Bool) → cond b (Some row) (row_at others uri) ≡ cond b (Some row) (row_at others uri)
            of b = refl
        by_change (Drop key) none = of (bytes_eq uri key) none
          where
            of : (b : Bool) → (b ≡ true → row_at others uri ≡ None) → row_at others uri ≡ cond b None (row_at others uri)
            of true none = none refl
            of false none = refl

    none_of : (key : List ℕ) (others : List Row) → AreBehind row_uri key others → bytes_eq uri key ≡ true → row_at others uri ≡ None
    none_of key others far same = rw (same_bytes uri key same) (none_behind key others far)

    by_order : (o : Ordering) → texts (uri_of change) x.uri ≡ o
        → row_at (changed change xs) uri ≡ cond (bytes_eq uri (uri_of change)) (row_left change) (row_at xs uri)
        → row_at (match_ordering o (rows_of change ++ x ∷ xs) (rows_of change ++ xs) (x ∷ changed change xs)) uri
        ≡ cond (bytes_eq uri (uri_of change)) (row_left change) (row_at (x ∷ xs) uri)
    by_order Less is rest = front (x ∷ xs) (none_of (uri_of change) (x ∷ xs) (is, behind_trans row_uri (uri_of change) x.uri xs is behind))
    by_order Equal is rest =
        let same : bytes_eq (uri_of change) x.uri ≡ true = sym (is_eq-slice_cmp (uri_of change) x.uri) ∙ ap is_eq is in
        let key : uri_of change ≡ x.uri = same_bytes (uri_of change) x.uri same in
        front xs (λ here. none_of x.uri xs behind (rw key at here)) ∙ of key (bytes_eq uri x.uri) refl
      where
        of : uri_of change ≡ x.uri → (b : Bool) → bytes_eq uri x.uri ≡ b
            → cond (bytes_eq uri (uri_of change)) (row_left change) (row_at xs uri)
            ≡ cond (bytes_eq uri (uri_of change)) (row_left change) (cond (bytes_eq uri x.uri) (Some x) (row_at xs uri))
        of key true here = rw (key, here) refl
        of key false here = rw (key, here) refl
    by_order Greater is rest = of (bytes_eq uri x.uri) refl
      where
        of : (b : Bool) → bytes_eq uri x.uri ≡ b
            → cond (bytes_eq uri x.uri) (Some x) (row_at (changed change xs) uri)
            ≡ cond (bytes_eq uri (uri_of change)) (row_left change) (cond (bytes_eq uri x.uri) (Some x) (row_at xs uri))
        of true here =
            let apart : bytes_eq uri (uri_of change) ≡ false =
            rw (same_bytes uri x.uri here) (apart_greater x.uri (uri_of change) (flip (uri_of change) x.uri is)) in
            rw (here, apart) refl
        of false here = rw here rest

-- a change that isn't left out is made
made : (rows : List Row) (change : RowChange) → is_left_out (effect_of rows change) ≡ false → after_change rows change ≡ changed change rows
made rows (Drop uri) fit = refl
made rows (Put row) fit = of (row_at rows row.uri) refl fit
  where
    of : (o : Option Row) → row_at rows row.uri ≡ o → is_left_out (put_effect rows row o) ≡ false
        → cond (is_some (row_at rows row.uri) || nat_lt (length rows) MAX_ROWS) (changed (Put row) rows) rows ≡ changed (Put row) rows
    of (Some old) there fit = rw there refl
    of None absent fit = room (nat_lt (length rows) MAX_ROWS) refl fit
      where
        room : (b : Bool) → nat_lt (length rows) MAX_ROWS ≡ b → is_left_out (cond b Came (LeftOut row)) ≡ false
            → cond (is_some (row_at rows row.uri) || nat_lt (length rows) MAX_ROWS) (changed (Put row) rows) rows ≡ changed (Put row) rows
        room true few fit = rw (absent, few) refl
        room false many fit = absurd (cc)

-- the row of a URI after a change that isn't left out
pub row_after : (rows : List Row) (change : RowChange) (uri : List ℕ) → IsDatabase rows → is_left_out (effect_of rows change) ≡ false
    → row_at (after_change rows change) uri ≡ cond (bytes_eq uri (uri_of change)) (row_left change) (row_at rows uri)
row_after rows change uri database fit = rw (made rows change fit) (replaced_row change rows uri database.rising)

-- how many rows there are after it
length_changed : (change : RowChange) (rows : List Row) → IsRising row_uri rows
    → length (changed change rows) + cond (has_uri rows (uri_of change)) 1 0 ≡ length (rows_of change) + length rows
length_changed change [] rising = of change
  where
    of : (c : RowChange) → length (changed c []) + 0 ≡ length (rows_of c) + 0
    of (Put row) = refl
    of (Drop uri) = refl
length_changed change (x ∷ xs) rising =
    by_order (texts (uri_of change) x.uri) refl (length_changed change xs (sorted_tail (by_text row_uri) x xs rising))
  where
    behind : AreBehind row_uri x.uri xs
    behind = sorted_head (by_text row_uri) x xs rising

    by_order : (o : Ordering) → texts (uri_of change) x.uri ≡ o
        → length (changed change xs) + cond (has_uri xs (uri_of change)) 1 0 ≡ length (rows_of change) + length xs
        → length (match_ordering o (rows_of change ++ x ∷ xs) (rows_of change ++ xs) (x ∷ changed change xs))
        + cond (is_some (cond (bytes_eq (uri_of change) x.uri) (Some x) (row_at xs (uri_of change)))) 1 0 ≡ length (rows_of change)
        + length (x ∷ xs)
    by_order Less is rest =
        let none : row_at xs (uri_of change) ≡ None =
        none_behind (uri_of change) xs (behind_trans row_uri (uri_of change) x.uri xs is behind) in
        rw (apart_greater (uri_of change) x.uri is, none) (omega (arith, length-append (rows_of change) (x ∷ xs)))
    by_order Equal is rest =
        let same : bytes_eq (uri_of change) x.uri ≡ true = sym (is_eq-slice_cmp (uri_of change) x.uri) ∙ ap is_eq is in
        rw same (omega (arith, length-append (rows_of change) xs))
    by_order Greater is rest = rw (apart_less x.uri (uri_of change) (flip (uri_of change) x.uri is)) (omega arith)

pub length_after : (rows : List Row) (change : RowChange) → IsDatabase rows → is_left_out (effect_of rows change) ≡ false
    → length (after_change rows change) + cond (has_uri rows (uri_of change)) 1 0 ≡ length (rows_of change) + length rows
length_after rows change database fit = rw (made rows change fit) (length_changed change rows database.rising)

pub database_batch : (rows : List Row) (changes : List RowChange) → IsDatabase rows → IsDatabase (after_batch rows changes)
database_batch rows [] database = database
database_batch rows (change ∷ changes) database = database_batch (after_change rows change) changes (database_after rows change database)

-- one change more
pub batch_more : (rows : List Row) (a b : List RowChange) → after_batch rows (a ++ b) ≡ after_batch (after_batch rows a) b
batch_more rows [] b = refl
batch_more rows (change ∷ a) b = batch_more (after_change rows change) a b

pub effects_more : (rows : List Row) (a b : List RowChange)
    → effects_of rows (a ++ b) ≡ effects_of rows a ++ effects_of (after_batch rows a) b
effects_more rows [] b = refl
effects_more rows (change ∷ a) b = ap (λ es. effect_of rows change ∷ es) (effects_more (after_change rows change) a b)

-- none of the changes is left out
abbrev pub AllFit : List Row → List RowChange → Type 0
AllFit rows changes = list_any is_left_out (effects_of rows changes) ≡ false

pub fit_more : (rows : List Row) (a : List RowChange) (change : RowChange)
    → list_any is_left_out (effects_of rows (a ++ change ∷ []))
    ≡ (list_any is_left_out (effects_of rows a) || is_left_out (effect_of (after_batch rows a) change))
fit_more rows a change =
    rw (effects_more rows a (change ∷ []), list_any-append is_left_out (effects_of rows a) (effect_of (after_batch rows a) change ∷ []))
    (of (list_any is_left_out (effects_of rows a)) (is_left_out (effect_of (after_batch rows a) change)))
  where
    of : (b c : Bool) → (b || (c || false)) ≡ (b || c)
    of true c = refl
    of false true = refl
    of false false = refl

-- a left out change stays so whatever comes behind
pub left_out_at : (rows : List Row) (a b : List RowChange) → list_any is_left_out (effects_of rows a) ≡ true
    → list_any is_left_out (effects_of rows (a ++ b)) ≡ true
left_out_at rows a b some = rw (
  effects_more rows a b,
  list_any-append is_left_out (effects_of rows a) (effects_of (after_batch rows a) b),
  some,
) refl

pub fit_front : (rows : List Row) (a b : List RowChange) → AllFit rows (a ++ b) → AllFit rows a
fit_front rows a b fit = of (list_any is_left_out (effects_of rows a)) refl
  where
    of : (c : Bool) → list_any is_left_out (effects_of rows a) ≡ c → list_any is_left_out (effects_of rows a) ≡ false
    of true some = absurd (cc (left_out_at rows a b some))
    of false none = none
