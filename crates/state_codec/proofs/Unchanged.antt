-- Which changes of a batch, and which deletions, change nothing.
use Rattle.std.proofs.Common.{◌≡◌, ◌≢◌, ℕ, ◌≤◌, Bool, true, false, cond, eqb, ◌==◌, ◌||◌, ◌&&◌, ◌⊎◌, inl, inr, List}
use Rattle.std.proofs.Common.{[], ◌∷◌, length, take, drop, Option, Some, None, is_some, nat_lt, refl, sym, ap, ◌∙◌, arith}
use Rattle.std.specs.declared.cmp.Ordering.{Ordering}
use Rattle.std.specs.declared.cmp.Ordering.TheVariants.{Less, Equal, Greater}
use Rattle.std.specs.Ordering.{match_ordering, is_eq}
use Rattle.std.specs.List.{list_any}
use Rattle.std.specs.Str.{bytes_eq}
use Rattle.std.proofs.lemmas.Bool.Decides.{eqb_tells}
use Rattle.std.proofs.lemmas.List.{length-append, length-take-le, length-drop, take-append-drop}
use Rattle.std.proofs.lemmas.Map.Keys.{sorted_head, sorted_tail}
use Rattle.std.proofs.lemmas.Map.Text.{is_eq-slice_cmp}
use Rattle.play_queue.specs.declared.entry.Entry.{Entry}
use Rattle.play_queue.specs.Entries.{Uris, deleted}
use Rattle.play_queue.specs.Queue.{is_same, is_unchanged}
use Rattle.play_queue.proofs.Ruling.{is_unchanged-itself}
use Rattle.song_db.specs.Change.{IsDatabase, changed, after_change}
use Rattle.song_db.specs.Effect.{effect_of, effects_of, put_effect, drop_effect, changes_a_row}
use Rattle.song_db.specs.Limits.{MAX_ROWS}
use Rattle.song_db.specs.Replaced.{by_text, IsRising}
use Rattle.song_db.specs.Row.{Row, row_uri, row_at}
use Rattle.song_db.specs.Same.{same_row}
use Rattle.song_db.specs.declared.change.RowChange.{RowChange}
use Rattle.song_db.specs.declared.change.RowChange.TheVariants.{Put, Drop}
use Rattle.song_db.specs.declared.effect.Effect.TheVariants.{Nothing, Came, Replaced, LeftOut}
use Rattle.song_db.proofs.Batches.{behind_trans, flip}
use Rattle.song_db.proofs.Rising.{texts, apart_less}
use Rattle.song_db.proofs.SameRows.{row_same}
use Rattle.song_db.proofs.Turns.{none_behind}

-- a row that is there already
put_again : (rows : List Row) (row : Row) → IsRising row_uri rows → row_at rows row.uri ≡ Some row → changed (Put row) rows ≡ rows
put_again [] row rising there = absurd (cc)
put_again (x ∷ xs) row rising there = by_order (texts row.uri x.uri) refl (put_again xs row (sorted_tail (by_text row_uri) x xs rising))
  where
    by_order : (o : Ordering) → texts row.uri x.uri ≡ o → (row_at xs row.uri ≡ Some row → changed (Put row) xs ≡ xs)
        → match_ordering o (row ∷ x ∷ xs) (row ∷ xs) (x ∷ changed (Put row) xs) ≡ x ∷ xs
    by_order Less is rest =
        let none : row_at (x ∷ xs) row.uri ≡ None =
        none_behind row.uri (x ∷ xs) (is, behind_trans row_uri row.uri x.uri xs is (sorted_head (by_text row_uri) x xs rising)) in
        absurd (let clash : None ≡ Some row = sym none ∙ there in cc)
    by_order Equal is rest =
        let same : bytes_eq row.uri x.uri ≡ true = sym (is_eq-slice_cmp row.uri x.uri) ∙ ap is_eq is in
        let first : Some x ≡ Some row = rw same at there in
        let it : x ≡ row = cc in
        ap (λ (r : Row). r ∷ xs) (sym it)
    by_order Greater is rest =
        let apart : bytes_eq row.uri x.uri ≡ false = apart_less x.uri row.uri (flip row.uri x.uri is) in
        ap (λ l. x ∷ l) (rest (rw apart at there))

-- a URI without a row
drop_absent : (rows : List Row) (uri : List ℕ) → IsRising row_uri rows → row_at rows uri ≡ None → changed (Drop uri) rows ≡ rows
drop_absent [] uri rising none = refl
drop_absent (x ∷ xs) uri rising none = by_order (texts uri x.uri) refl (drop_absent xs uri (sorted_tail (by_text row_uri) x xs rising))
  where
    by_order : (o : Ordering) → texts uri x.uri ≡ o → (row_at xs uri ≡ None → changed (Drop uri) xs ≡ xs)
        → match_ordering o (x ∷ xs) xs (x ∷ changed (Drop uri) xs) ≡ x ∷ xs
    by_order Less is rest = refl
    by_order Equal is rest =
        let same : bytes_eq uri x.uri ≡ true = sym (is_eq-slice_cmp uri x.uri) ∙ ap is_eq is in
        let first : Some x ≡ None = rw same at none in
        absurd (cc)
    by_order Greater is rest =
        let apart : bytes_eq uri x.uri ≡ false = apart_less x.uri uri (flip uri x.uri is) in
        ap (λ l. x ∷ l) (rest (rw apart at none))

-- a change that changes no row leaves the rows
pub none_changed : (rows : List Row) (change : RowChange) → IsDatabase rows → changes_a_row (effect_of rows change) ≡ false
    → after_change rows change ≡ rows
none_changed rows (Drop uri) database none = of (row_at rows uri) refl none
  where
    of : (o : Option Row) → row_at rows uri ≡ o → changes_a_row (drop_effect o) ≡ false → changed (Drop uri) rows ≡ rows
    of None absent none = drop_absent rows uri database.rising absent
    of (Some old) there none = absurd (cc)
none_changed rows (Put row) database none = of (row_at rows row.uri) refl none
  where
    of : (o : Option Row) → row_at rows row.uri ≡ o → changes_a_row (put_effect rows row o) ≡ false
        → cond (is_some (row_at rows row.uri) || nat_lt (length rows) MAX_ROWS) (changed (Put row) rows) rows ≡ rows
    of None absent none = rw absent (room (nat_lt (length rows) MAX_ROWS) none)
      where
        room : (b : Bool) → changes_a_row (cond b Came (LeftOut row)) ≡ false → cond b (changed (Put row) rows) rows ≡ rows
        room true none = absurd (cc)
        room false none = refl
    of (Some old) there none = rw there (same (same_row old row) refl none)
      where
        same : (b : Bool) → same_row old row ≡ b → changes_a_row (cond b Nothing (Replaced old)) ≡ false → changed (Put row) rows ≡ rows
        same true is none =
            let it : old ≡ row = row_same old row is in
            put_again rows row database.rising (there ∙ ap Some it)
        same false is none = absurd (cc)

-- whether a change of a batch changes a row at its turn is told before any of them is made
pub any_at_once : (rows : List Row) (changes : List RowChange) → IsDatabase rows
    → list_any changes_a_row (effects_of rows changes) ≡ list_any (λ change. changes_a_row (effect_of rows change)) changes
any_at_once rows [] database = refl
any_at_once rows (change ∷ changes) database = of (changes_a_row (effect_of rows change)) refl (any_at_once rows changes database)
  where
    of : (b : Bool) → changes_a_row (effect_of rows change) ≡ b
        → list_any changes_a_row (effects_of rows changes) ≡ list_any (λ change. changes_a_row (effect_of rows change)) changes
        → (b || list_any changes_a_row (effects_of (after_change rows change) changes))
        ≡ (b || list_any (λ change. changes_a_row (effect_of rows change)) changes)
    of true some rest = refl
    of false none rest = ap (λ rs. list_any changes_a_row (effects_of rs changes)) (none_changed rows change database none) ∙ rest

-- lists in which nothing has changed are equally long
pub same_length : (changed : Uris) (befores afters : List Entry) → is_unchanged changed befores afters ≡ true
    → length befores ≡ length afters
same_length changed [] [] same = refl
same_length changed [] (after ∷ afters) same = absurd (cc)
same_length changed (before ∷ befores) [] same = absurd (cc)
same_length changed (before ∷ befores) (after ∷ afters) same = of (is_same changed before after) same (same_length changed befores afters)
  where
    of : (b : Bool) → (b && is_unchanged changed befores afters) ≡ true
        → (is_unchanged changed befores afters ≡ true → length befores ≡ length afters)
        → length (before ∷ befores) ≡ length (after ∷ afters)
    of true same rest = let tail : length befores ≡ length afters = rest same in omega arith
    of false same rest = absurd (cc)

-- a deletion changes something exactly where its block has entries
pub deleted_none : (entries : List Entry) (start end : ℕ) → start ≤ end → end ≤ length entries
    → is_unchanged [] entries (deleted entries start end) ≡ (start == end)
deleted_none entries start end forward within = of (eqb_tells start end)
  where
    of : ((eqb start end ≡ true) × (start ≡ end)) ⊎ ((eqb start end ≡ false) × (start ≢ end))
        → is_unchanged [] entries (deleted entries start end) ≡ eqb start end
    of (inl same) =
        let itself : deleted entries start end ≡ entries = rw (same.1) (take-append-drop end entries) in
        rw (same.0, itself) (is_unchanged-itself entries)
    of (inr apart) = by_cases (is_unchanged [] entries (deleted entries start end)) refl
      where
        by_cases : (b : Bool) → is_unchanged [] entries (deleted entries start end) ≡ b
            → is_unchanged [] entries (deleted entries start end) ≡ eqb start end
        by_cases false other = other ∙ sym (apart.0)
        by_cases true same =
            let long : length entries ≡ length (deleted entries start end) = same_length [] entries (deleted entries start end) same in
            let parts = length-append (take start entries) (drop end entries) in
            let front : length (take start entries) ≡ start = length-take-le start entries (omega arith) in
            absurd (apart.1 (omega (arith, parts, front, length-drop end entries)))
