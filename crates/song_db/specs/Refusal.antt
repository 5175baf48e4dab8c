-- The refusals: their numbers, and when a call is refused.
use Rattle.std.specs.Prelude.{◌≡◌, ℕ, Bool, true, false, List, Option, Some, None, Result, Err, IsOk, IsOkUnless, if◌then◌else◌}
use Rattle.std.specs.List.{list_any}
use Rattle.song_db.specs.declared.effect.Effect.{Effect}
use Rattle.song_db.specs.declared.refusal.SongDbError.{SongDbError}
use Rattle.song_db.specs.declared.refusal.SongDbError.TheVariants.{NoSuchUri, DbFull, NoMemory}
use Rattle.song_db.specs.Effect.{is_left_out}

abbrev pub number_of : SongDbError → ℕ
number_of NoSuchUri = 17
number_of DbFull = 18
number_of NoMemory = 7

-- refused exactly where what is named isn't there: such a call takes no memory
abbrev pub AnswersExactlyIfThere : {T : Type 0} → Bool → Result T SongDbError → Type 0
AnswersExactlyIfThere true r = IsOk r
AnswersExactlyIfThere false r = r ≡ Err NoSuchUri

-- refused where what is named isn't there, and else by want of memory alone
abbrev pub AnswersIfThere : {T : Type 0} → Bool → Result T SongDbError → Type 0
AnswersIfThere true r = IsOkUnless r NoMemory
AnswersIfThere false r = r ≡ Err NoSuchUri

-- changes are left out of a full database alone
abbrev pub refusal_of : List Effect → Option SongDbError
refusal_of effects = if list_any is_left_out effects then Some DbFull else None
