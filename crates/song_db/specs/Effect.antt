-- What each change of a batch does at its turn.
use Rattle.std.specs.Prelude.{ℕ, ◌+◌, ◌-◌, Bool, true, false, nat_lt, List, [], ◌∷◌, length, Option, Some, None, if◌then◌else◌}
use Rattle.song_db.specs.declared.change.RowChange.{RowChange}
use Rattle.song_db.specs.declared.change.RowChange.TheVariants.{Put, Drop}
use Rattle.song_db.specs.declared.effect.Effect.{Effect}
use Rattle.song_db.specs.declared.effect.Effect.TheVariants.{Nothing, Came, Replaced, Went, LeftOut}
use Rattle.song_db.specs.Change.{after_change}
use Rattle.song_db.specs.Duration.{milliseconds}
use Rattle.song_db.specs.Limits.{MAX_ROWS}
use Rattle.song_db.specs.Row.{Row, row_at}
use Rattle.song_db.specs.Same.{same_row}

-- a row comes where its URI has this row, or none
abbrev pub put_effect : List Row → Row → Option Row → Effect
put_effect rows row None = if nat_lt (length rows) MAX_ROWS then Came else LeftOut row
put_effect rows row (Some old) = if same_row old row then Nothing else Replaced old

-- the row of a URI goes, if there is one
abbrev pub drop_effect : Option Row → Effect
drop_effect None = Nothing
drop_effect (Some old) = Went old

abbrev pub effect_of : List Row → RowChange → Effect
effect_of rows (Put row) = put_effect rows row (row_at rows row.uri)
effect_of rows (Drop uri) = drop_effect (row_at rows uri)

-- each change finds the rows as those before it left them
abbrev pub effects_of : List Row → List RowChange → List Effect
effects_of rows [] = []
effects_of rows (change ∷ changes) = effect_of rows change ∷ effects_of (after_change rows change) changes

-- whether a row changed
abbrev pub changes_a_row : Effect → Bool
changes_a_row Nothing = false
changes_a_row Came = true
changes_a_row (Replaced old) = true
changes_a_row (Went old) = true
changes_a_row (LeftOut row) = false

abbrev pub is_left_out : Effect → Bool
is_left_out Nothing = false
is_left_out Came = false
is_left_out (Replaced old) = false
is_left_out (Went old) = false
is_left_out (LeftOut row) = true

-- the milliseconds that are lost with an old row
abbrev pub loss_of : Effect → ℕ
loss_of Nothing = 0
loss_of Came = 0
loss_of (Replaced old) = milliseconds old
loss_of (Went old) = milliseconds old
loss_of (LeftOut row) = 0

-- the milliseconds of all songs after a change with this gain
abbrev pub total_after : ℕ → ℕ → Effect → ℕ
total_after total gain Nothing = total
total_after total gain Came = total + gain
total_after total gain (Replaced old) = total - milliseconds old + gain
total_after total gain (Went old) = total - milliseconds old
total_after total gain (LeftOut row) = total
