-- The order in which songs are told follows a change by its effect.
use Rattle.std.specs.Prelude.{MatchOption}
use Rattle.std.proofs.Common.{◌≡◌, ◌⊎◌, inl, inr, Bool, true, false, cond, List, [], ◌∷◌, ◌++◌, length, Option, Some, None, nat_lt, refl, sym, ap, ◌∙◌}
use Rattle.song_db.specs.declared.change.RowChange.{RowChange}
use Rattle.song_db.specs.declared.change.RowChange.TheVariants.{Put, Drop}
use Rattle.song_db.specs.declared.effect.Effect.{Effect}
use Rattle.song_db.specs.declared.effect.Effect.TheVariants.{Nothing, Came, Replaced, Went, LeftOut}
use Rattle.song_db.specs.Change.{after_change}
use Rattle.song_db.specs.Effect.{effect_of, put_effect, drop_effect}
use Rattle.song_db.specs.Limits.{MAX_ROWS}
use Rattle.song_db.specs.Replaced.{IsRising, replaced}
use Rattle.song_db.specs.Row.{Row, row_at, row_uri}
use Rattle.song_db.specs.Same.{same_row}
use Rattle.song_db.specs.Told.{told_key, told_order}
use Rattle.song_db.specs.ValueIndex.{coming}
use Rattle.song_db.proofs.Follows.{came_row, going_row, replacing_row}
use Rattle.song_db.specs.Last.{ends_before}
use Rattle.song_db.proofs.Groups.{last_replaced, none_last}
use Rattle.song_db.proofs.Indexed.{again_replaced, itself_replaced, none_left, none_replaced}
use Rattle.song_db.proofs.SameRows.{row_same}
use Rattle.song_db.proofs.ToldOrder.{one_came, one_went}

pub nothing_changes : (rows : List Row) (change : RowChange) → IsRising row_uri rows → Nothing ≡ effect_of rows change
    → after_change rows change ≡ rows
nothing_changes rows (Drop uri) rising effect = by_cases (row_at rows uri) refl effect
  where
    by_cases : (o : Option Row) → row_at rows uri ≡ o → Nothing ≡ drop_effect o → replaced row_uri uri [] rows ≡ rows
    by_cases None none told = none_replaced uri rows none
    by_cases (Some old) found told = absurd (cc)
nothing_changes rows (Put row) rising effect = by_cases (row_at rows row.uri) refl effect
  where
    by_full : (b : Bool) → Nothing ≡ cond b Came (LeftOut row) → after_change rows (Put row) ≡ rows
    by_full true told = absurd (cc)
    by_full false told = absurd (cc)

    by_same : (old : Row) → row_at rows row.uri ≡ Some old → (b : Bool) → same_row old row ≡ b
        → Nothing ≡ cond b Nothing (Replaced old) → after_change rows (Put row) ≡ rows
    by_same old found true same told =
        let it : old ≡ row = row_same old row same in
        let stays : replaced row_uri row.uri (row ∷ []) rows ≡ rows = itself_replaced row rows rising (found ∙ ap Some it) in
        rw found stays
    by_same old found false other told = absurd (cc)

    by_cases : (o : Option Row) → row_at rows row.uri ≡ o → Nothing ≡ put_effect rows row o → after_change rows (Put row) ≡ rows
    by_cases None none told = by_full (nat_lt (length rows) MAX_ROWS) told
    by_cases (Some old) found told = by_same old found (same_row old row) refl told

pub left_out_changes : (rows : List Row) (change : RowChange) (left : Row) → LeftOut left ≡ effect_of rows change → after_change rows change ≡ rows
left_out_changes rows (Drop uri) left effect = by_cases (row_at rows uri) effect
  where
    by_cases : (o : Option Row) → LeftOut left ≡ drop_effect o → replaced row_uri uri [] rows ≡ rows
    by_cases None told = absurd (cc)
    by_cases (Some old) told = absurd (cc)
left_out_changes rows (Put row) left effect = by_cases (row_at rows row.uri) refl effect
  where
    by_full : row_at rows row.uri ≡ None → (b : Bool) → nat_lt (length rows) MAX_ROWS ≡ b → LeftOut left ≡ cond b Came (LeftOut row)
        → after_change rows (Put row) ≡ rows
    by_full none true room told = absurd (cc)
    by_full none false full told = rw (none, full) refl

    by_same : (old : Row) → (b : Bool) → LeftOut left ≡ cond b Nothing (Replaced old) → after_change rows (Put row) ≡ rows
    by_same old true told = absurd (cc)
    by_same old false told = absurd (cc)

    by_cases : (o : Option Row) → row_at rows row.uri ≡ o → LeftOut left ≡ put_effect rows row o → after_change rows (Put row) ≡ rows
    by_cases None none told = by_full none (nat_lt (length rows) MAX_ROWS) refl told
    by_cases (Some old) found told = by_same old (same_row old row) told

pub told_stays : (effect : Effect) (rows : List Row) (change : RowChange) (told : List Row)
    → (effect ≡ Nothing) ⊎ ((left : Row) × (effect ≡ LeftOut left)) → IsRising row_uri rows → effect ≡ effect_of rows change
    → told ≡ told_order rows → told ≡ told_order (after_change rows change)
told_stays effect rows change told (inl none) rising is so = so ∙ ap told_order (sym (nothing_changes rows change rising (sym none ∙ is)))
told_stays effect rows change told (inr left) rising is so = so ∙ ap told_order (sym (left_out_changes rows change left.0 (sym left.1 ∙ is)))

-- what is done where a row comes
abbrev pub Puts : Option Row → List Row → List Row → Type 0
Puts row before after = MatchOption row (after ≡ before) (λ one. after ≡ replaced told_key (told_key one) (one ∷ []) before)

pub told_came : (row : Option Row) (before after : List Row) → Puts row before after → (rows : List Row) (change : RowChange)
    → row ≡ coming change → Came ≡ effect_of rows change → before ≡ told_order rows → after ≡ told_order (after_change rows change)
told_came row before after done rows change is effect so =
    let found = came_row rows change row is effect in
    let put : after ≡ replaced told_key (told_key found.0) (found.0 ∷ []) before = rw found.1 at done in
    put ∙ ap (replaced told_key (told_key found.0) (found.0 ∷ [])) so ∙ sym (one_came found.0 rows found.2.none)
    ∙ ap told_order (sym found.2.after)

pub told_went : (old : Row) (before after rows : List Row) (change : RowChange) → after ≡ replaced told_key (told_key old) [] before
    → IsRising row_uri rows → Went old ≡ effect_of rows change → before ≡ told_order rows → after ≡ told_order (after_change rows change)
told_went old before after rows change done rising effect so =
    let going = going_row rows change old effect in
    done ∙ ap (replaced told_key (told_key old) []) so ∙ sym (one_went old rows rising going.found) ∙ ap told_order (sym going.after)

pub told_replaced : (row : Option Row) (old : Row) (before between after : List Row) → between ≡ replaced told_key (told_key old) [] before
    → Puts row between after → (rows : List Row) (change : RowChange) → IsRising row_uri rows → row ≡ coming change
    → Replaced old ≡ effect_of rows change → before ≡ told_order rows → after ≡ told_order (after_change rows change)
told_replaced row old before between after took done rows change rising is effect so =
    let found = replacing_row rows change row old is effect in
    let one = found.0 in
    let put : after ≡ replaced told_key (told_key one) (one ∷ []) between = rw found.1 at done in
    let there : row_at rows old.uri ≡ Some old = ap (row_at rows) found.2.same_uri ∙ found.2.found in
    let without : List Row = replaced row_uri one.uri [] rows in
    let gone : between ≡ told_order without =
    took ∙ ap (replaced told_key (told_key old) []) so ∙ sym (one_went old rows rising there)
    ∙ ap (λ uri. told_order (replaced row_uri uri [] rows)) found.2.same_uri in
    put ∙ ap (replaced told_key (told_key one) (one ∷ [])) gone ∙ sym (one_came one without (none_left one.uri rows rising))
    ∙ ap told_order (again_replaced one rows rising ∙ sym found.2.after)

-- a song behind the last one by URI
pub told_last : (rows : List Row) (row : Row) → IsRising row_uri rows → ends_before rows row.uri ≡ true
    → replaced told_key (told_key row) (row ∷ []) (told_order rows) ≡ told_order (rows ++ row ∷ [])
told_last rows row rising before =
    sym (one_came row rows (none_last rows row.uri rising before)) ∙ ap told_order (last_replaced rows row rising before)
