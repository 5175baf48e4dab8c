-- What the public calls answer.
use Rattle.std.specs.Prelude.{◌≡◌, ℕ, ◌-◌, ⊤, List, Result, Ok, Err}
use Rattle.std.specs.Global.{Vec}
use Rattle.state_codec.specs.declared.refusal.CodecError.{CodecError}
use Rattle.state_codec.specs.declared.refusal.CodecError.TheVariants.{NoMemory, BadOp, BadSnapshot}
use Rattle.state_codec.specs.declared.fields.ReadError.{ReadError}
use Rattle.state_codec.specs.declared.fields.ReadError.TheVariants.{Fault, NoMemory as OutOfMemory}
use Rattle.state_codec.specs.declared.op.Op.{Op}
use Rattle.state_codec.specs.SavedState.{SavedState}

-- the ops or the fault that reading gives, unless memory ran out
abbrev pub GivesOps : Result (Vec Op) CodecError → Result (List Op) ℕ → Type 0
GivesOps (Ok ops) read = read ≡ Ok ops.items
GivesOps (Err NoMemory) read = ⊤
GivesOps (Err (BadOp offset)) read = read ≡ Err offset
GivesOps (Err (BadSnapshot offset)) read = ⊥

-- the state or the fault that reading gives, unless memory ran out
abbrev pub GivesSaved : Result SavedState CodecError → Result SavedState ℕ → Type 0
GivesSaved (Ok s) read = read ≡ Ok s
GivesSaved (Err NoMemory) read = ⊤
GivesSaved (Err (BadOp offset)) read = ⊥
GivesSaved (Err (BadSnapshot offset)) read = read ≡ Err offset

-- what is told of a fault, in so many bytes
abbrev pub op_error : ℕ → ReadError → CodecError
op_error len (Fault left) = BadOp (len - left)
op_error len OutOfMemory = NoMemory

abbrev pub snapshot_error : ℕ → ReadError → CodecError
snapshot_error len (Fault left) = BadSnapshot (len - left)
snapshot_error len OutOfMemory = NoMemory
