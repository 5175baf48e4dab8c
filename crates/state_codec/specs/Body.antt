-- What the body of a record does to a saved state, op by op as they are read.
use Rattle.std.specs.Prelude.{◌≡◌, ℕ, suc, zero, ◌-◌, ⊤, List, [], ◌∷◌, length, Result, Ok, Err, ◌==◌, if◌then◌else◌}
use Rattle.std.specs.Option.{ok_or}
use Rattle.state_codec.specs.declared.fields.ReadError.{ReadError}
use Rattle.state_codec.specs.declared.layout.Layout.{Layout}
use Rattle.state_codec.specs.declared.fields.ReadError.TheVariants.{Fault, NoMemory as OutOfMemory}
use Rattle.state_codec.specs.declared.refusal.ApplyError.{ApplyError}
use Rattle.state_codec.specs.declared.refusal.ApplyError.TheVariants.{NoMemory as Unapplied, Refused}
use Rattle.state_codec.specs.declared.refusal.BodyError.{BodyError}
use Rattle.state_codec.specs.declared.refusal.BodyError.TheVariants.{NoMemory, BadOp, DoesNotApply}
use Rattle.state_codec.specs.Applied.{applied}
use Rattle.state_codec.specs.Layout.{layout_of}
use Rattle.state_codec.specs.ReadingOps.{op_at}
use Rattle.state_codec.specs.SavedState.{SavedState}
use Rattle.state_codec.specs.Sealed.{unsealed}
use Rattle.state_codec.specs.Steps.{◌>>=◌}

-- a fault is told by its offset in so many bytes
abbrev pub told : {A : Type 0} → ℕ → Result A ℕ → Result A BodyError
told total (Ok x) = Ok x
told total (Err left) = Err (BadOp (total - left))

-- The ops up to the end, at most n of them, of a body of so many bytes: each is read and applied, and then the next.
-- The first of them has the place i.
unfoldable pub body_from : Layout → ℕ → ℕ → ℕ → List ℕ → SavedState → Result SavedState BodyError
body_from layout total n i [] s = Ok s
body_from layout total zero i (b ∷ rest) s = Err (BadOp (total - length (b ∷ rest)))
body_from layout total (suc n) i (b ∷ rest) s = do
  op ← told total (op_at layout (b ∷ rest))
  next ← ok_or (applied op.0 s) (DoesNotApply i)
  body_from layout total n (suc i) op.1 next

-- the state after the ops of bytes without their checksum, one op at least, or the first thing that is wrong
abbrev pub front_applied : Layout → SavedState → List ℕ → Result SavedState BodyError
front_applied layout s body = if length body == 0 then Err (BadOp 0) else body_from layout (length body) (length body) 0 body s

-- a fault is told by its offset
abbrev pub told_offset : {A : Type 0} → Result A ℕ → Result A BodyError
told_offset (Ok x) = Ok x
told_offset (Err offset) = Err (BadOp offset)

-- The state after the body of a record, or the first thing that is wrong. No op is applied before the checksum is known to be right.
abbrev pub body_applied_in : Layout → List ℕ → SavedState → Result SavedState BodyError
body_applied_in layout body s = told_offset (unsealed layout.profile body) >>= front_applied layout s

-- the same in the layout of a number
abbrev pub body_applied : ℕ → List ℕ → SavedState → Result SavedState BodyError
body_applied number body s = body_applied_in (layout_of number) body s

-- the state or the fault, unless memory ran out
abbrev pub GivesBody : Result (Unit {0}) BodyError → SavedState → Result SavedState BodyError → Type 0
GivesBody (Ok done) after all = all ≡ Ok after
GivesBody (Err NoMemory) after all = ⊤
GivesBody (Err (BadOp offset)) after all = all ≡ Err (BadOp offset)
GivesBody (Err (DoesNotApply place)) after all = all ≡ Err (DoesNotApply place)

-- the op at a place that does not apply
abbrev pub told_place : {A : Type 0} → Result A ℕ → Result A BodyError
told_place (Ok x) = Ok x
told_place (Err place) = Err (DoesNotApply place)

-- what is told of a fault in so many bytes
abbrev pub bad_op : ℕ → ReadError → BodyError
bad_op total (Fault left) = BadOp (total - left)
bad_op total OutOfMemory = NoMemory

-- what is told of the op at a place that was refused
abbrev pub not_applied : ℕ → ApplyError → BodyError
not_applied place Unapplied = NoMemory
not_applied place (Refused refusal) = DoesNotApply place
