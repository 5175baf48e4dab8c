-- What one change of a batch does at its turn, and which changes tell something.
use Rattle.std.proofs.Common.{◌≡◌, ℕ, ◌+◌, ◌-◌, ◌≤◌, Bool, true, false, not, cond, ◌||◌, List, [], ◌∷◌, ◌++◌, length, nat_lt}
use Rattle.std.proofs.Common.{Option, Some, None, is_some, refl, sym, ap, ◌∙◌, arith, append_assoc, if◌then◌else◌, filter}
use Rattle.std.specs.List.{list_all}
use Rattle.std.proofs.lemmas.Bool.{and_parts}
use Rattle.std.proofs.lemmas.List.{append-nil}
use Rattle.profile.specs.declared.profile.Profile.{Profile}
use Rattle.song_db.specs.Change.{IsDatabase, after_change, after_batch, uri_of}
use Rattle.song_db.specs.Effect.{effect_of, put_effect, drop_effect, changes_a_row, is_left_out}
use Rattle.song_db.specs.Limits.{MAX_ROWS}
use Rattle.song_db.specs.Row.{Row, row_at}
use Rattle.song_db.specs.Same.{same_row}
use Rattle.song_db.specs.declared.change.RowChange.{RowChange}
use Rattle.song_db.specs.declared.change.RowChange.TheVariants.{Put, Drop}
use Rattle.song_db.specs.declared.effect.Effect.{Effect}
use Rattle.song_db.specs.declared.effect.Effect.TheVariants.{Nothing, Came, Replaced, Went, LeftOut}
use Rattle.state_codec.specs.Changes.{are_kept, is_kept_change}
use Rattle.state_codec.proofs.BatchRows.{length_after, database_batch, batch_more, fit_more}
use Rattle.state_codec.proofs.Unchanged.{none_changed}
use Rattle.machine_core.specs.Scanning.{drops_heard, kept_changes, spared, telling}
use Rattle.machine_core.specs.ScanningRows.{AreTold, count_told}
use Rattle.machine_core.specs.State.{MachineState}

-- what changes a row isn't left out
changes_fits : (e : Effect) → changes_a_row e ≡ true → is_left_out e ≡ false
changes_fits Nothing h = refl
changes_fits Came h = refl
changes_fits (Replaced old) h = refl
changes_fits (Went old) h = refl
changes_fits (LeftOut row) h = absurd (cc)

-- those that tell something are no more than all
telling_few : (rows : List Row) (changes : List RowChange) → length (telling rows changes) ≤ length changes
telling_few rows [] = omega arith
telling_few rows (change ∷ changes) =
    of (changes_a_row (effect_of rows change)) (telling_few (after_change rows change) changes)
  where
    of : (b : Bool) → length (telling (after_change rows change) changes) ≤ length changes
        → length (if b then change ∷ telling (after_change rows change) changes else telling (after_change rows change) changes)
        ≤ length (change ∷ changes)
    of true few = omega (arith, few)
    of false few = omega (arith, few)

-- a count tells whether a change changes a row
count_put : (rows : List Row) (row : Row) (n : ℕ) (o : Option Row)
    → (is_left_out (put_effect rows row o) ≡ false → n + cond (is_some o) 1 0 ≡ 1 + length rows)
    → count_told (length rows) (Put row) o ≡ (if changes_a_row (put_effect rows row o) then Some n else None)
count_put rows row n (Some old) long = of (same_row old row) long
  where
    of : (b : Bool) → (is_left_out (cond b Nothing (Replaced old)) ≡ false → n + 1 ≡ 1 + length rows)
        → cond b None (Some (length rows)) ≡ (if changes_a_row (cond b Nothing (Replaced old)) then Some n else None)
    of true long = refl
    of false long = let same : n + 1 ≡ 1 + length rows = long refl in let few : length rows ≡ n = omega arith in ap Some few
count_put rows row n None long = of (nat_lt (length rows) MAX_ROWS) long
  where
    of : (b : Bool) → (is_left_out (cond b Came (LeftOut row)) ≡ false → n + 0 ≡ 1 + length rows)
        → cond b (Some (length rows + 1)) None ≡ (if changes_a_row (cond b Came (LeftOut row)) then Some n else None)
    of true long = let same : n + 0 ≡ 1 + length rows = long refl in let few : length rows + 1 ≡ n = omega arith in ap Some few
    of false long = refl

count_drop : (rows : List Row) (uri : List ℕ) (n : ℕ) (o : Option Row)
    → (is_left_out (drop_effect o) ≡ false → n + cond (is_some o) 1 0 ≡ 0 + length rows)
    → count_told (length rows) (Drop uri) o ≡ (if changes_a_row (drop_effect o) then Some n else None)
count_drop rows uri n (Some old) long =
    let same : n + 1 ≡ 0 + length rows = long refl in let few : length rows - 1 ≡ n = omega arith in ap Some few
count_drop rows uri n None long = refl

count_step : (rows : List Row) (change : RowChange) → IsDatabase rows
    → count_told (length rows) change (row_at rows (uri_of change))
    ≡ (if changes_a_row (effect_of rows change) then Some (length (after_change rows change)) else None)
count_step rows (Put row) database =
    count_put rows row (length (after_change rows (Put row))) (row_at rows row.uri) (length_after rows (Put row) database)
count_step rows (Drop uri) database =
    count_drop rows uri (length (after_change rows (Drop uri))) (row_at rows uri) (length_after rows (Drop uri) database)

-- one change more
pub kept_one : (rows : List Row) (told : List RowChange) (change : RowChange) (count next : ℕ) (row : Option Row) → IsDatabase rows
    → AreTold rows told count → row ≡ row_at (after_batch rows told) (uri_of change) → count_told count change row ≡ Some next
    → AreTold rows (told ++ change ∷ []) next × (told ++ change ∷ [] ≡ told ++ telling (after_batch rows told) (change ∷ []))
kept_one rows told change count next row database all is some =
    let after : List Row = after_batch rows told in
    let step = count_step after change (database_batch rows told database) in
    let here : count_told (length after) change (row_at after (uri_of change)) ≡ Some next =
    sym (λ i. count_told (all.count i) change (is i)) ∙ some in
    let told_so = of (changes_a_row (effect_of after change)) _ (sym step ∙ here) in (
      record {
        fit = fit_more rows told change
            ∙ (λ i. all.fit i || changes_fits (effect_of after change) told_so.0 i);
        count = sym told_so.1 ∙ ap length (sym (batch_more rows told (change ∷ [])));
      },
      rw told_so.0 refl,
    )
  where
    of : (b : Bool) (n : ℕ) → (if b then Some n else None) ≡ Some next → (b ≡ true) × (n ≡ next)
    of true n h = (refl, cc)
    of false n h = absurd (cc)

-- a change that is kept or not, with those behind it
tell_on : (rows : List Row) (told rest more : List RowChange) (change : RowChange) → IsDatabase rows
    → more ≡ told ++ telling (after_batch rows told) (change ∷ [])
    → more ++ telling (after_batch rows more) rest ≡ told ++ telling (after_batch rows told) (change ∷ rest)
tell_on rows told rest more change database is =
    by_cases (changes_a_row (effect_of after change)) refl
    (is ∙ ap (λ c. told ++ c) (one (changes_a_row (effect_of after change)) refl))
  where
    after : List Row
    after = after_batch rows told

    one : (b : Bool) → changes_a_row (effect_of after change) ≡ b → telling after (change ∷ []) ≡ (if b then change ∷ [] else [])
    one b h = rw h refl

    by_cases : (b : Bool) → changes_a_row (effect_of after change) ≡ b → more ≡ told ++ (if b then change ∷ [] else [])
        → more ++ telling (after_batch rows more) rest
        ≡ told ++ (if b then change ∷ telling (after_change after change) rest else telling (after_change after change) rest)
    by_cases true h e =
        (λ i. e i ++ telling (after_batch rows (e i)) rest)
        ∙ ap (λ rs. (told ++ change ∷ []) ++ telling rs rest) (batch_more rows told (change ∷ []))
        ∙ append_assoc told (change ∷ []) (telling (after_change after change) rest)
    by_cases false h e =
        (λ i. (e ∙ append-nil told) i ++ telling (after_batch rows ((e ∙ append-nil told) i)) rest)
        ∙ ap (λ rs. told ++ telling rs rest) (sym (none_changed after change (database_batch rows told database) h))

-- so it is where the profile keeps a part of the changes
pub tell_kept_on : (profile : Profile) (rows : List Row) (told rest more : List RowChange) (change : RowChange) → IsDatabase rows
    → more ≡ told ++ telling (after_batch rows told) (kept_changes profile (change ∷ []))
    → more ++ telling (after_batch rows more) (kept_changes profile rest)
    ≡ told ++ telling (after_batch rows told) (kept_changes profile (change ∷ rest))
tell_kept_on profile rows told rest more change database is = of (is_kept_change profile change) is
  where
    others : List RowChange
    others = kept_changes profile rest

    of : (b : Bool) → more ≡ told ++ telling (after_batch rows told) (cond b (change ∷ []) [])
        → more ++ telling (after_batch rows more) others ≡ told ++ telling (after_batch rows told) (cond b (change ∷ others) others)
    of true e = tell_on rows told others more change database e
    of false e = ap (λ (m : List RowChange). m ++ telling (after_batch rows m) others) (e ∙ append-nil told)

-- a change that is kept, and one that isn't
pub kept_alone : (profile : Profile) (rows : List Row) (change : RowChange) → is_kept_change profile change ≡ true
    → telling rows (change ∷ []) ≡ telling rows (kept_changes profile (change ∷ []))
kept_alone profile rows change kept = rw kept refl

pub none_kept : (profile : Profile) (rows : List Row) (change : RowChange) (told : List RowChange)
    → is_kept_change profile change ≡ false → told ≡ told ++ telling rows (kept_changes profile (change ∷ []))
none_kept profile rows change told kept = rw kept (sym (append-nil told))

-- all that is told is kept
telling_all : (test : RowChange → Bool) (rows : List Row) (changes : List RowChange) → list_all test changes ≡ true
    → list_all test (telling rows changes) ≡ true
telling_all test rows [] all = refl
telling_all test rows (change ∷ changes) all =
    let parts = and_parts (test change) (list_all test changes) all in
    of (changes_a_row (effect_of rows change)) parts.0 (telling_all test (after_change rows change) changes parts.1)
  where
    of : (b : Bool) → test change ≡ true → list_all test (telling (after_change rows change) changes) ≡ true
        → list_all test (if b then change ∷ telling (after_change rows change) changes else telling (after_change rows change) changes)
        ≡ true
    of true one rest = rw (one, rest) refl
    of false one rest = rest

filter_all : (test : RowChange → Bool) (changes : List RowChange) → list_all test (filter test changes) ≡ true
filter_all test [] = refl
filter_all test (change ∷ changes) = of (test change) refl (filter_all test changes)
  where
    of : (b : Bool) → test change ≡ b → list_all test (filter test changes) ≡ true
        → list_all test (cond b (change ∷ filter test changes) (filter test changes)) ≡ true
    of true one rest = rw (one, rest) refl
    of false one rest = rest

pub telling_kept : (profile : Profile) (rows : List Row) (changes : List RowChange)
    → are_kept profile (telling rows (kept_changes profile changes)) ≡ true
telling_kept profile rows changes =
    telling_all (is_kept_change profile) rows (kept_changes profile changes) (filter_all (is_kept_change profile) changes)

kept_few : (profile : Profile) (changes : List RowChange) → length (kept_changes profile changes) ≤ length changes
kept_few profile [] = omega arith
kept_few profile (change ∷ changes) = of (is_kept_change profile change) (kept_few profile changes)
  where
    of : (b : Bool) → length (kept_changes profile changes) ≤ length changes
        → length (cond b (change ∷ kept_changes profile changes) (kept_changes profile changes)) ≤ length (change ∷ changes)
    of true few = omega (arith, few)
    of false few = omega (arith, few)

-- and no more than all
pub told_few : (profile : Profile) (rows : List Row) (changes : List RowChange)
    → length (telling rows (kept_changes profile changes)) ≤ length changes
told_few profile rows changes = omega (arith, telling_few rows (kept_changes profile changes), kept_few profile changes)

-- nor are those that are spared
pub spared_few : (m : MachineState) (changes : List RowChange) → length (spared m changes) ≤ length changes
spared_few m [] = omega arith
spared_few m (change ∷ changes) = of (not (drops_heard m change)) (spared_few m changes)
  where
    of : (b : Bool) → length (spared m changes) ≤ length changes
        → length (cond b (change ∷ spared m changes) (spared m changes)) ≤ length (change ∷ changes)
    of true few = omega (arith, few)
    of false few = omega (arith, few)
