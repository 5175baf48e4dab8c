-- What the effect of a change says of it.
use Rattle.std.specs.Prelude.{MatchOption}
use Rattle.std.proofs.Common.{◌≡◌, ◌⊎◌, inl, inr, ℕ, Bool, true, false, cond, List, [], ◌∷◌, length, Option, Some, None, nat_lt, refl, sym, ap, ◌∙◌, arith}
use Rattle.std.specs.Str.{bytes_eq}
use Rattle.std.proofs.lemmas.Slice.Eq.{bytes_eq-Decides}
use Rattle.song_db.specs.declared.change.RowChange.{RowChange}
use Rattle.song_db.specs.declared.change.RowChange.TheVariants.{Put, Drop}
use Rattle.song_db.specs.declared.effect.Effect.{Effect}
use Rattle.song_db.specs.declared.effect.Effect.TheVariants.{Nothing, Came, Replaced, Went, LeftOut}
use Rattle.song_db.specs.declared.value_index.TagValues.{TagValues}
use Rattle.song_db.specs.Change.{after_change}
use Rattle.song_db.specs.Effect.{effect_of, put_effect, drop_effect}
use Rattle.song_db.specs.Limits.{MAX_ROWS}
use Rattle.song_db.specs.Replaced.{IsRising, replaced}
use Rattle.song_db.specs.Row.{Row, row_at, row_uri}
use Rattle.song_db.specs.Same.{same_row}
use Rattle.song_db.specs.ValueIndex.{Comes, Goes, IsIndex, coming}
use Rattle.song_db.proofs.Batches.{rising_replaced}
use Rattle.song_db.proofs.Indexed.{itself_replaced, none_left, none_replaced, again_replaced}
use Rattle.song_db.proofs.SameRows.{row_same}

uri_found : (rows : List Row) (uri : List ℕ) (old : Row) → row_at rows uri ≡ Some old → old.uri ≡ uri
uri_found [] uri old found = absurd (cc)
uri_found (x ∷ xs) uri old found = by_cases (bytes_eq uri x.uri) refl found (uri_found xs uri old)
  where
    by_cases : (b : Bool) → bytes_eq uri x.uri ≡ b → cond b (Some x) (row_at xs uri) ≡ Some old
        → (row_at xs uri ≡ Some old → old.uri ≡ uri) → old.uri ≡ uri
    by_cases true same here rest =
        let it : x ≡ old = cc in
        ap row_uri (sym it) ∙ sym ((bytes_eq-Decides uri x.uri).0 same)
    by_cases false other later rest = rest later

-- nothing changes
pub nothing_follows : (rows : List Row) (change : RowChange) (index : List TagValues) → IsRising row_uri rows
    → Nothing ≡ effect_of rows change → IsIndex rows index → IsIndex (after_change rows change) index
nothing_follows rows (Drop uri) index rising effect is = by_cases (row_at rows uri) refl effect
  where
    by_cases : (o : Option Row) → row_at rows uri ≡ o → Nothing ≡ drop_effect o → IsIndex (replaced row_uri uri [] rows) index
    by_cases None none told = rw (none_replaced uri rows none) is
    by_cases (Some old) found told = absurd (cc)
nothing_follows rows (Put row) index rising effect is = by_cases (row_at rows row.uri) refl effect
  where
    by_full : (b : Bool) → nat_lt (length rows) MAX_ROWS ≡ b → Nothing ≡ cond b Came (LeftOut row)
        → IsIndex (after_change rows (Put row)) index
    by_full true room told = absurd (cc)
    by_full false full told = absurd (cc)

    by_same : (old : Row) → row_at rows row.uri ≡ Some old → (b : Bool) → same_row old row ≡ b
        → Nothing ≡ cond b Nothing (Replaced old) → IsIndex (after_change rows (Put row)) index
    by_same old found true same told =
        let it : old ≡ row = row_same old row same in
        let stays : replaced row_uri row.uri (row ∷ []) rows ≡ rows = itself_replaced row rows rising (found ∙ ap Some it) in
        rw (found, stays) is
    by_same old found false other told = absurd (cc)

    by_cases : (o : Option Row) → row_at rows row.uri ≡ o → Nothing ≡ put_effect rows row o → IsIndex (after_change rows (Put row)) index
    by_cases None none told = by_full (nat_lt (length rows) MAX_ROWS) refl told
    by_cases (Some old) found told = by_same old found (same_row old row) refl told

pub left_out_follows : (rows : List Row) (change : RowChange) (left : Row) (index : List TagValues)
    → LeftOut left ≡ effect_of rows change → IsIndex rows index → IsIndex (after_change rows change) index
left_out_follows rows (Drop uri) left index effect is = by_cases (row_at rows uri) effect
  where
    by_cases : (o : Option Row) → LeftOut left ≡ drop_effect o → IsIndex (replaced row_uri uri [] rows) index
    by_cases None told = absurd (cc)
    by_cases (Some old) told = absurd (cc)
left_out_follows rows (Put row) left index effect is = by_cases (row_at rows row.uri) refl effect
  where
    by_full : row_at rows row.uri ≡ None → (b : Bool) → nat_lt (length rows) MAX_ROWS ≡ b → LeftOut left ≡ cond b Came (LeftOut row)
        → IsIndex (after_change rows (Put row)) index
    by_full none true room told = absurd (cc)
    by_full none false full told = rw (none, full) is

    by_same : (old : Row) → (b : Bool) → LeftOut left ≡ cond b Nothing (Replaced old) → IsIndex (after_change rows (Put row)) index
    by_same old true told = absurd (cc)
    by_same old false told = absurd (cc)

    by_cases : (o : Option Row) → row_at rows row.uri ≡ o → LeftOut left ≡ put_effect rows row o
        → IsIndex (after_change rows (Put row)) index
    by_cases None none told = by_full none (nat_lt (length rows) MAX_ROWS) refl told
    by_cases (Some old) found told = by_same old (same_row old row) told

-- a row came, under a URI that had none
pub record IsComing (rows : List Row) (change : RowChange) (row : Row) : Type 0 where
  pub put : change ≡ Put row
  pub none : row_at rows row.uri ≡ None
  pub after : after_change rows change ≡ replaced row_uri row.uri (row ∷ []) rows

pub came_row : (rows : List Row) (change : RowChange) (row : Option Row) → row ≡ coming change → Came ≡ effect_of rows change
    → (one : Row) × (row ≡ Some one) × IsComing rows change one
came_row rows (Drop uri) row is effect = by_cases (row_at rows uri) effect
  where
    by_cases : (o : Option Row) → Came ≡ drop_effect o → (one : Row) × (row ≡ Some one) × IsComing rows (Drop uri) one
    by_cases None told = absurd (cc)
    by_cases (Some old) told = absurd (cc)
came_row rows (Put new) row is effect = by_cases (row_at rows new.uri) refl effect
  where
    by_full : row_at rows new.uri ≡ None → (b : Bool) → nat_lt (length rows) MAX_ROWS ≡ b → Came ≡ cond b Came (LeftOut new)
        → (one : Row) × (row ≡ Some one) × IsComing rows (Put new) one
    by_full none true room told = (new, is, record { put = refl; none = none; after = rw (none, room) refl })
    by_full none false full told = absurd (cc)

    by_same : (old : Row) → (b : Bool) → Came ≡ cond b Nothing (Replaced old) → (one : Row) × (row ≡ Some one) × IsComing rows (Put new) one
    by_same old true told = absurd (cc)
    by_same old false told = absurd (cc)

    by_cases : (o : Option Row) → row_at rows new.uri ≡ o → Came ≡ put_effect rows new o
        → (one : Row) × (row ≡ Some one) × IsComing rows (Put new) one
    by_cases None none told = by_full none (nat_lt (length rows) MAX_ROWS) refl told
    by_cases (Some old) found told = by_same old (same_row old new) told

-- a row took the place of another
pub record IsReplacing (rows : List Row) (change : RowChange) (row old : Row) : Type 0 where
  pub found : row_at rows row.uri ≡ Some old
  pub same_uri : old.uri ≡ row.uri
  pub after : after_change rows change ≡ replaced row_uri row.uri (row ∷ []) rows

pub replacing_row : (rows : List Row) (change : RowChange) (row : Option Row) (old : Row) → row ≡ coming change
    → Replaced old ≡ effect_of rows change → (one : Row) × (row ≡ Some one) × IsReplacing rows change one old
replacing_row rows (Drop uri) row old is effect = by_cases (row_at rows uri) effect
  where
    by_cases : (o : Option Row) → Replaced old ≡ drop_effect o → (one : Row) × (row ≡ Some one) × IsReplacing rows (Drop uri) one old
    by_cases None told = absurd (cc)
    by_cases (Some went) told = absurd (cc)
replacing_row rows (Put new) row old is effect = by_cases (row_at rows new.uri) refl effect
  where
    by_full : (b : Bool) → Replaced old ≡ cond b Came (LeftOut new) → (one : Row) × (row ≡ Some one) × IsReplacing rows (Put new) one old
    by_full true told = absurd (cc)
    by_full false told = absurd (cc)

    by_same : (here : Row) → row_at rows new.uri ≡ Some here → (b : Bool) → Replaced old ≡ cond b Nothing (Replaced here)
        → (one : Row) × (row ≡ Some one) × IsReplacing rows (Put new) one old
    by_same here found true told = absurd (cc)
    by_same here found false told =
        let it : old ≡ here = cc in
        let at : row_at rows new.uri ≡ Some old = found ∙ ap Some (sym it) in
        (new, is, record { found = at; same_uri = uri_found rows new.uri old at; after = rw found refl })

    by_cases : (o : Option Row) → row_at rows new.uri ≡ o → Replaced old ≡ put_effect rows new o
        → (one : Row) × (row ≡ Some one) × IsReplacing rows (Put new) one old
    by_cases None none told = by_full (nat_lt (length rows) MAX_ROWS) told
    by_cases (Some here) found told = by_same here found (same_row here new) told

-- a row went
pub record IsGoing (rows : List Row) (change : RowChange) (old : Row) : Type 0 where
  pub found : row_at rows old.uri ≡ Some old
  pub after : after_change rows change ≡ replaced row_uri old.uri [] rows

pub going_row : (rows : List Row) (change : RowChange) (old : Row) → Went old ≡ effect_of rows change → IsGoing rows change old
going_row rows (Put new) old effect = by_cases (row_at rows new.uri) effect
  where
    by_full : (b : Bool) → Went old ≡ cond b Came (LeftOut new) → IsGoing rows (Put new) old
    by_full true told = absurd (cc)
    by_full false told = absurd (cc)

    by_same : (here : Row) → (b : Bool) → Went old ≡ cond b Nothing (Replaced here) → IsGoing rows (Put new) old
    by_same here true told = absurd (cc)
    by_same here false told = absurd (cc)

    by_cases : (o : Option Row) → Went old ≡ put_effect rows new o → IsGoing rows (Put new) old
    by_cases None told = by_full (nat_lt (length rows) MAX_ROWS) told
    by_cases (Some here) told = by_same here (same_row here new) told
going_row rows (Drop uri) old effect = by_cases (row_at rows uri) refl effect
  where
    by_cases : (o : Option Row) → row_at rows uri ≡ o → Went old ≡ drop_effect o → IsGoing rows (Drop uri) old
    by_cases None none told = absurd (cc)
    by_cases (Some here) found told =
        let it : old ≡ here = cc in
        let at : row_at rows uri ≡ Some old = found ∙ ap Some (sym it) in
        let own : old.uri ≡ uri = uri_found rows uri old at in
        record { found = ap (row_at rows) own ∙ at; after = ap (λ u. replaced row_uri u [] rows) (sym own) }

-- ---- the steps of the index

pub came_follows : (rows : List Row) (change : RowChange) (row : Row) (before after : List TagValues) → IsRising row_uri rows
    → IsComing rows change row → Comes row before after → IsIndex rows before → IsIndex (after_change rows change) after
came_follows rows change row before after rising coming comes is = rw coming.after (comes rows rising coming.none is)

pub went_follows : (rows : List Row) (change : RowChange) (old : Row) (before after : List TagValues) → IsRising row_uri rows
    → IsGoing rows change old → Goes old before after → IsIndex rows before → IsIndex (after_change rows change) after
went_follows rows change old before after rising going goes is = rw going.after (goes rows rising going.found is)

pub replaced_follows : (rows : List Row) (change : RowChange) (row old : Row) (before between after : List TagValues)
    → IsRising row_uri rows → IsReplacing rows change row old → Goes old before between → Comes row between after
    → IsIndex rows before → IsIndex (after_change rows change) after
replaced_follows rows change row old before between after rising replacing goes comes is =
    let gone : IsIndex (replaced row_uri row.uri [] rows) between
    = rw replacing.same_uri at (goes rows rising (ap (row_at rows) replacing.same_uri ∙ replacing.found) is) in
    let both : replaced row_uri row.uri (row ∷ []) (replaced row_uri row.uri [] rows) ≡ replaced row_uri row.uri (row ∷ []) rows
    = again_replaced row rows rising in
    rw (replacing.after, ← both) (comes (replaced row_uri row.uri [] rows) (rising_replaced row_uri row.uri [] rows (record { keyed = tt; few = omega arith }) rising)
    (none_left row.uri rows rising) gone)

-- ---- by the kind of effect

pub nothing_done : (effect : Effect) (rows : List Row) (change : RowChange) (index : List TagValues)
    → (effect ≡ Nothing) ⊎ ((left : Row) × (effect ≡ LeftOut left)) → IsRising row_uri rows → effect ≡ effect_of rows change
    → IsIndex rows index → IsIndex (after_change rows change) index
nothing_done effect rows change index (inl none) rising is made = nothing_follows rows change index rising (sym none ∙ is) made
nothing_done effect rows change index (inr left) rising is made = left_out_follows rows change left.0 index (sym left.1 ∙ is) made

pub came_done : (row : Option Row) (before after : List TagValues) → MatchOption row (after ≡ before) (λ one. Comes one before after)
    → (rows : List Row) (change : RowChange) → IsRising row_uri rows → row ≡ coming change → Came ≡ effect_of rows change
    → IsIndex rows before → IsIndex (after_change rows change) after
came_done row before after done rows change rising is effect made =
    let found = came_row rows change row is effect in
    let comes : Comes found.0 before after = rw found.1 at done in
    came_follows rows change found.0 before after rising found.2 comes made

pub replaced_done : (row : Option Row) (old : Row) (before between after : List TagValues) → Goes old before between
    → MatchOption row (after ≡ between) (λ one. Comes one between after)
    → (rows : List Row) (change : RowChange) → IsRising row_uri rows → row ≡ coming change → Replaced old ≡ effect_of rows change
    → IsIndex rows before → IsIndex (after_change rows change) after
replaced_done row old before between after goes done rows change rising is effect made =
    let found = replacing_row rows change row old is effect in
    let comes : Comes found.0 between after = rw found.1 at done in
    replaced_follows rows change found.0 old before between after rising found.2 goes comes made
