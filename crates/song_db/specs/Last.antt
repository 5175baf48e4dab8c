-- A row behind the last one.
use Rattle.std.specs.Prelude.{ℕ, Bool, true, List, [], ◌∷◌, length, nat_lt, Option, Some, None, Result, Err, IsOkUnless, ◌≡◌, if◌then◌else◌}
use Rattle.std.specs.Ordering.{nat_cmp, is_lt}
use Rattle.std.specs.Cmp.Lexicographic.{slice_cmp}
use Rattle.song_db.specs.declared.refusal.PushError.{PushError}
use Rattle.song_db.specs.declared.refusal.PushError.TheVariants.{NotRising, Full, NoMemory}
use Rattle.song_db.specs.Limits.{MAX_ROWS}
use Rattle.song_db.specs.Row.{Row}

-- the last of the rows stands before a URI
abbrev pub ends_before : List Row → List ℕ → Bool
ends_before [] uri = true
ends_before (row ∷ []) uri = is_lt (slice_cmp nat_cmp row.uri uri)
ends_before (row ∷ next ∷ rows) uri = ends_before (next ∷ rows) uri

-- a row that doesn't rise is refused, and one too many
abbrev pub push_refusal : List Row → Row → Option PushError
push_refusal rows row =
    if ends_before rows row.uri
    then (if nat_lt (length rows) MAX_ROWS then None else Some Full)
    else Some NotRising

-- refused exactly so, and else by want of memory alone
abbrev pub AnswersPush : {T : Type 0} → Option PushError → Result T PushError → Type 0
AnswersPush None r = IsOkUnless r NoMemory
AnswersPush (Some refusal) r = r ≡ Err refusal
