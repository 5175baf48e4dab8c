-- What decoding answers.
use Rattle.std.specs.Prelude.{◌≡◌, ⊤, ℕ, ◌-◌, ◌^◌, min, Option, Some, None, Result, Ok, Err}
use Rattle.profile.specs.declared.profile.Profile.{Profile}
use Rattle.state_codec.specs.SavedState.{SavedState}
use Rattle.state_codec.specs.declared.refusal.BodyError.{BodyError}
use Rattle.state_codec.specs.declared.refusal.BodyError.TheVariants as body
use Rattle.state_codec.specs.declared.refusal.CodecError.{CodecError}
use Rattle.state_codec.specs.declared.refusal.CodecError.TheVariants as codec
use Rattle.live_stage.specs.Found.{brought, snapshot_at}
use Rattle.live_stage.specs.declared.refusal.StartError.{StartError}
use Rattle.live_stage.specs.declared.refusal.StartError.TheVariants.{NotEmpty, NoJournal, Damaged, NoMemory, NumbersSpent, Broken}

-- the state or the offset that reading gives, unless memory ran out; offsets are counted up to 2^64 - 1
abbrev pub GivesState : Result SavedState StartError → Result SavedState ℕ → Type 0
GivesState (Ok s) read = read ≡ Ok s
GivesState (Err NotEmpty) read = ⊥
GivesState (Err NoJournal) read = ⊥
GivesState (Err (Damaged offset)) (Ok s) = ⊥
GivesState (Err (Damaged offset)) (Err at) = offset ≡ min at (2 ^ 64 - 1)
GivesState (Err NoMemory) read = ⊤
GivesState (Err NumbersSpent) read = ⊥
GivesState (Err Broken) read = ⊥

-- the state that was read, as a profile takes it
abbrev pub brought_reading : Profile → Result SavedState ℕ → Result SavedState ℕ
brought_reading profile (Ok s) = Ok (brought profile s)
brought_reading profile (Err at) = Err at

-- why a snapshot gives no state
abbrev pub snapshot_error : CodecError → StartError
snapshot_error codec.NoMemory = NoMemory
snapshot_error (codec.BadOp offset) = Damaged snapshot_at
snapshot_error (codec.BadSnapshot offset) = Damaged snapshot_at

-- why a record gives no state, whose gate has this offset
abbrev pub record_error : ℕ → BodyError → StartError
record_error gate body.NoMemory = NoMemory
record_error gate (body.BadOp offset) = Damaged gate
record_error gate (body.DoesNotApply place) = Damaged gate

-- the state after one record, or the offset of its gate, unless memory ran out
abbrev pub GivesAfter : ℕ → Result (Unit {0}) StartError → SavedState → Option SavedState → Type 0
GivesAfter gate (Ok done) s after = after ≡ Some s
GivesAfter gate (Err NotEmpty) s after = ⊥
GivesAfter gate (Err NoJournal) s after = ⊥
GivesAfter gate (Err (Damaged offset)) s after = (offset ≡ gate) × (after ≡ None)
GivesAfter gate (Err NoMemory) s after = ⊤
GivesAfter gate (Err NumbersSpent) s after = ⊥
GivesAfter gate (Err Broken) s after = ⊥
