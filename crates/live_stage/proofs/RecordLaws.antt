-- The body of a record, applied as it is read, gives what its ops give in turn.
use Rattle.std.proofs.Common.{◌≡◌, ℕ, zero, suc, List, [], ◌∷◌, length, ◌==◌, Bool, true, false, Option, Some, None}
use Rattle.std.proofs.Common.{Result, Ok, Err, refl, sym, ap, ◌∙◌}
use Rattle.std.specs.Option.{option_and_then, ok_or}
use Rattle.std.specs.Result.{result_ok}
use Rattle.state_codec.specs.declared.op.Op.{Op}
use Rattle.state_codec.specs.declared.refusal.BodyError.{BodyError}
use Rattle.state_codec.specs.declared.refusal.BodyError.TheVariants.{NoMemory, BadOp, DoesNotApply}
use Rattle.state_codec.specs.Applied.{applied, applied_from, all_applied}
use Rattle.state_codec.specs.Body.{told, told_offset, told_place, body_from, body_applied, front_applied, GivesBody}
use Rattle.state_codec.specs.Fields.{Field}
use Rattle.state_codec.specs.Layout.{layout_of, profile_of}
use Rattle.state_codec.specs.Reading.{front_ops, ops_reading}
use Rattle.state_codec.specs.ReadingOps.{op_at, ops_at}
use Rattle.state_codec.specs.SavedState.{SavedState}
use Rattle.state_codec.specs.Sealed.{unsealed}
use Rattle.state_codec.specs.Steps.{◌>>=◌}
use Rattle.state_codec.proofs.ApplyLaws.{spelled}
use Rattle.live_stage.specs.Decoding.{GivesAfter, record_error}
use Rattle.live_stage.specs.Found.{after_record}

-- these bytes spell ops, which give this state
record Gives (i : ℕ) (read : Result (List Op) ℕ) (s t : SavedState) : Type 0 where
  ops : List Op
  spells : read ≡ Ok ops
  applies : applied_from i ops s ≡ Ok t

-- what follows an op, where it applies
of_applied : (number total n i : ℕ) (s t : SavedState) (op : Op) (back : List ℕ) (o : Option SavedState)
    → ((next : SavedState) → body_from (layout_of number) total n (suc i) back next ≡ Ok t
    → Gives (suc i) (ops_at (layout_of number) n back) next t)
    → applied op s ≡ o → (ok_or o (DoesNotApply i) >>= λ next. body_from (layout_of number) total n (suc i) back next) ≡ Ok t
    → Gives i (ops_at (layout_of number) n back >>= λ others. Ok (op ∷ others)) s t
of_applied number total n i s t op back None more at is = absurd cc
of_applied number total n i s t op back (Some next) more at is =
    let behind = more next is in
    record { ops = op ∷ behind.ops; spells = rw behind.spells refl; applies = rw at behind.applies }

-- an op that was read, and what follows
of_read : (number total n i : ℕ) (s t : SavedState) (read : Field Op)
    → ((back : List ℕ) (next : SavedState) → body_from (layout_of number) total n (suc i) back next ≡ Ok t
    → Gives (suc i) (ops_at (layout_of number) n back) next t)
    → (told total read >>= λ op. ok_or (applied op.0 s) (DoesNotApply i) >>= λ next. body_from (layout_of number) total n (suc i) op.1 next) ≡ Ok t
    → Gives i (read >>= λ first. ops_at (layout_of number) n first.1 >>= λ others. Ok (first.0 ∷ others)) s t
of_read number total n i s t (Err left) more is = absurd cc
of_read number total n i s t (Ok op) more is = of_applied number total n i s t op.0 op.1 (applied op.0 s) (more op.1) refl is

same_state : (s t : SavedState) → (let end : Result SavedState BodyError = Ok s in end ≡ Ok t) → s ≡ t
same_state s t is = cc

ops_give : (number total n i : ℕ) (bytes : List ℕ) (s t : SavedState) → body_from (layout_of number) total n i bytes s ≡ Ok t
    → Gives i (ops_at (layout_of number) n bytes) s t
unfolding body_from ops_at
ops_give number total n i [] s t is = record { ops = []; spells = refl; applies = ap Ok (same_state s t is) }
ops_give number total zero i (b ∷ rest) s t is = absurd cc
ops_give number total (suc n) i (b ∷ rest) s t is =
    of_read number total n i s t (op_at (layout_of number) (b ∷ rest)) (λ back next. ops_give number total n (suc i) back next t) is

-- what a reading of ops gives
abbrev after_read : Result (List Op) ℕ → SavedState → Option SavedState
after_read read s = option_and_then (λ ops. all_applied ops s) (result_ok read)

-- bytes without their checksum that give a state
given_front : (number : ℕ) (b : Bool) (body : List ℕ) (s t : SavedState) → (length body == 0) ≡ b
    → front_applied (layout_of number) s body ≡ Ok t → after_read (front_ops (layout_of number) body) s ≡ Some t
given_front number true body s t empty is = absurd (let no : Err (BadOp 0) ≡ Ok t = (rw empty at is) in cc)
given_front number false body s t some is =
    let from : body_from (layout_of number) (length body) (length body) 0 body s ≡ Ok t = (rw some at is) in
    let whole = ops_give number (length body) (length body) 0 body s t from in
    let read : front_ops (layout_of number) body ≡ Ok whole.ops = rw (some, whole.spells) refl in
    rw (read, whole.applies) refl

-- a body that gives one
given_body : (number : ℕ) (front : Result (List ℕ) ℕ) (s t : SavedState)
    → (told_offset front >>= front_applied (layout_of number) s) ≡ Ok t
    → after_read (front >>= front_ops (layout_of number)) s ≡ Some t
given_body number (Ok front) s t is = given_front number (length front == 0) front s t refl is
given_body number (Err offset) s t is = absurd cc

-- ops that don't apply give no state
no_state : (read : Result SavedState ℕ) (e : BodyError) → told_place read ≡ Err e → result_ok read ≡ None
no_state (Ok s) e is = absurd cc
no_state (Err place) e is = refl

-- a body that gives none
refused_read : (number : ℕ) (body : List ℕ) (s : SavedState) (e : BodyError) (read : Result (List Op) ℕ) → ops_reading number body ≡ read
    → body_applied number body s ≡ Err e → option_and_then (λ ops. all_applied ops s) (result_ok read) ≡ None
refused_read number body s e (Err left) is fails = refl
refused_read number body s e (Ok ops) is fails =
    no_state (applied_from 0 ops s) e (sym (spelled (layout_of number) body s ops is) ∙ fails)

pub body_gives : (number : ℕ) (body : List ℕ) (s t : SavedState) → body_applied number body s ≡ Ok t → after_record number body s ≡ Some t
body_gives number body s t is = given_body number (unsealed (profile_of number) body) s t is

body_fails : (number : ℕ) (body : List ℕ) (s : SavedState) (e : BodyError) → body_applied number body s ≡ Err e
    → after_record number body s ≡ None
body_fails number body s e is = refused_read number body s e (ops_reading number body) refl is

-- what is told of a body that gives none
pub record_fails : (number gate : ℕ) (body : List ℕ) (s t : SavedState) (e : BodyError)
    → GivesBody (Err e) t (body_applied number body s) → GivesAfter gate (Err (record_error gate e)) t (after_record number body s)
record_fails number gate body s t NoMemory gives = tt
record_fails number gate body s t (BadOp offset) gives = (refl, body_fails number body s (BadOp offset) gives)
record_fails number gate body s t (DoesNotApply place) gives = (refl, body_fails number body s (DoesNotApply place) gives)
