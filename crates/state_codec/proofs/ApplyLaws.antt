-- The body of a record, applied as it is read.
use Rattle.std.proofs.Common.{◌≡◌, ℕ, zero, suc, ◌+◌, ◌-◌, ◌<◌, ◌≤◌, Bool, true, false, cond, eqb, List, [], ◌∷◌, length, Result, Ok, Err}
use Rattle.std.proofs.Common.{Some, None, refl, sym, ap, subst, ◌∙◌, arith}
use Rattle.std.specs.Prelude.{Option}
use Rattle.std.specs.Option.{ok_or}
use Rattle.std.proofs.lemmas.List.{length-append}
use Rattle.state_codec.specs.declared.layout.Layout.{Layout}
use Rattle.state_codec.specs.declared.op.Op.{Op}
use Rattle.state_codec.specs.declared.fields.ReadError.{ReadError}
use Rattle.state_codec.specs.declared.fields.ReadError.TheVariants.{Fault, NoMemory}
use Rattle.state_codec.specs.declared.refusal.ApplyError.{ApplyError}
use Rattle.state_codec.specs.declared.refusal.ApplyError.TheVariants.{NoMemory as Unapplied, Refused}
use Rattle.state_codec.specs.declared.refusal.BodyError.{BodyError}
use Rattle.state_codec.specs.declared.refusal.BodyError.TheVariants.{BadOp, DoesNotApply}
use Rattle.state_codec.specs.declared.refusal.OpRefusal.{OpRefusal}
use Rattle.state_codec.specs.Applied.{refusal_of, after, applied, applied_from, unless_refused}
use Rattle.state_codec.specs.Body.{told, told_place, body_from, front_applied, told_offset, body_applied_in, GivesBody, bad_op, not_applied}
use Rattle.state_codec.specs.Editing.{AnswersApply}
use Rattle.state_codec.specs.Fields.{Field}
use Rattle.state_codec.specs.Given.{Fails}
use Rattle.state_codec.specs.Reading.{in_bytes, front_ops, ops_reading_in}
use Rattle.state_codec.specs.ReadingOps.{op_at, ops_at}
use Rattle.state_codec.specs.SavedState.{SavedState, IsBytes}
use Rattle.state_codec.specs.Sealed.{unsealed}
use Rattle.state_codec.specs.SpellingOps.{op_bytes}
use Rattle.state_codec.specs.Steps.{◌>>=◌}
use Rattle.state_codec.proofs.FieldLaws.{bind_ok, ok_is}
use Rattle.state_codec.proofs.OpLaws.{op_takes, op_spelled}

-- an op that was read, or the fault, and what follows
abbrev turn : (layout : Layout) → ℕ → ℕ → ℕ → SavedState → Field Op → Result SavedState BodyError
turn layout total n i s read = told total read >>= λ op. ok_or (applied op.0 s) (DoesNotApply i) >>= λ next. body_from layout total n
    (suc i) op.1 next

-- what follows an op that was read
abbrev follow : (layout : Layout) → ℕ → ℕ → ℕ → List ℕ → Option SavedState → Result SavedState BodyError
follow layout total n i back o = ok_or o (DoesNotApply i) >>= λ next. body_from layout total n (suc i) back next

step : (layout : Layout) (total n i : ℕ) (bytes : List ℕ) (s : SavedState) → 0 < length bytes
    → body_from layout total (suc n) i bytes s ≡ turn layout total n i s (op_at layout bytes)
unfolding body_from
step layout total n i [] s some = absurd (omega arith)
step layout total n i (b ∷ rest) s some = refl

ended : (layout : Layout) (total n i : ℕ) (bytes : List ℕ) (s : SavedState) → length bytes ≡ 0 → body_from layout total n i bytes s ≡ Ok s
unfolding body_from
ended layout total n i [] s none = refl
ended layout total n i (b ∷ rest) s none = absurd (omega arith)

-- what a loop keeps, after so many ops
pub record BodySoFar (layout : Layout) (total i : ℕ) (rest : List ℕ) (s : SavedState) (all : Result SavedState BodyError) : Type 0 where
  pub reads : body_from layout total (total - i) i rest s ≡ all
  pub enough : i + length rest ≤ total
  pub rest_fits : IsBytes rest

pub begins : (layout : Layout) (bytes : List ℕ) (s : SavedState) → IsBytes bytes → eqb (length bytes) 0 ≡ false
    → BodySoFar layout (length bytes) 0 bytes s (front_applied layout s bytes)
begins layout bytes s fits some =
    let all : length bytes - 0 ≡ length bytes = omega arith in
    record {
      reads =
          ap (λ (n : ℕ). body_from layout (length bytes) n 0 bytes s) all
          ∙ ap (λ (b : Bool). cond b (Err (BadOp 0)) (body_from layout (length bytes) (length bytes) 0 bytes s)) (sym some);
      enough = omega arith;
      rest_fits = fits;
    }

op_shorter : (layout : Layout) (rest : List ℕ) (op : Op) (back : List ℕ) → IsBytes rest → op_at layout rest ≡ Ok (op, back)
    → length back < length rest
op_shorter layout rest op back fits e = let t = (op_takes layout rest (op, back) fits e).0 in omega (
  arith,
  ap length t.parts,
  length-append (op_bytes layout.profile op) back,
  op_spelled layout.profile op,
)

pub falls : (layout : Layout) (total i : ℕ) (rest : List ℕ) (s : SavedState) (op : Op) (back : List ℕ) (all : Result SavedState BodyError)
    → op_at layout rest ≡ Ok (op, back) → BodySoFar layout total i rest s all → length back < length rest
falls layout total i rest s op back all e so_far = op_shorter layout rest op back so_far.rest_fits e

-- the next step, of bytes that are not at their end
next_step : (layout : Layout) (total i : ℕ) (rest : List ℕ) (s : SavedState) (all : Result SavedState BodyError) → 0 < length rest
    → BodySoFar layout total i rest s all
    → turn layout total (total - (i + 1)) i s (op_at layout rest) ≡ all
next_step layout total i rest s all some so_far =
    let k : total - i ≡ suc (total - (i + 1)) = omega (arith, so_far.enough) in
    sym (step layout total (total - (i + 1)) i rest s some) ∙ ap (λ (n : ℕ). body_from layout total n i rest s) (sym k) ∙ so_far.reads

pub goes_on : (layout : Layout) (total i : ℕ) (rest : List ℕ) (s t : SavedState) (op : Op) (back : List ℕ) (all : Result SavedState
    BodyError)
    → op_at layout rest ≡ Ok (op, back) → applied op s ≡ Some t
    → BodySoFar layout total i rest s all → BodySoFar layout total (i + 1) back t all
goes_on layout total i rest s t op back all e f so_far =
    let less = op_shorter layout rest op back so_far.rest_fits e in
    let n = total - (i + 1) in
    let one : suc i ≡ i + 1 = omega arith in
    let here : turn layout total n i s (op_at layout rest) ≡ all = next_step layout total i rest s all (omega (arith, less)) so_far in
    let there : body_from layout total n (suc i) back t ≡ all = sym (ap (turn layout total n i s) e
    ∙ ap (follow layout total n i back) f) ∙ here in
    record {
      reads = ap (λ (k : ℕ). body_from layout total n k back t) (sym one) ∙ there;
      enough = omega (arith, so_far.enough, less);
      rest_fits = (op_takes layout rest (op, back) so_far.rest_fits e).0.rest_fits;
    }

pub bad : (layout : Layout) (total i : ℕ) (rest : List ℕ) (s t : SavedState) (error : ReadError) (all : Result SavedState BodyError)
    → 0 < length rest
    → Fails error (op_at layout rest) → BodySoFar layout total i rest s all
    → GivesBody (Err (bad_op total error)) t all
bad layout total i rest s t NoMemory all some e so_far = tt
bad layout total i rest s t (Fault left) all some e so_far = sym (next_step layout total i rest s all some so_far)
    ∙ ap (turn layout total (total - (i + 1)) i s) e

-- an op that was refused doesn't apply
no_state : (o : Option OpRefusal) (refusal : OpRefusal) (s : SavedState) → AnswersApply {T = Unit {0}} o (Err (Refused refusal))
    → unless_refused o s ≡ None
no_state None refusal s answer = absurd cc
no_state (Some other) refusal s answer = refl

pub refused : (layout : Layout) (total i : ℕ) (rest : List ℕ) (s t : SavedState) (op : Op) (rest_after : List ℕ) (error : ApplyError)
    (all : Result SavedState BodyError) → 0 < length rest → op_at layout rest ≡ Ok (op, rest_after)
    → AnswersApply {T = Unit {0}} (refusal_of op s) (Err error) → BodySoFar layout total i rest s all
    → GivesBody (Err (not_applied i error)) t all
refused layout total i rest s t op rest_after Unapplied all some e answer so_far = tt
refused layout total i rest s t op rest_after (Refused refusal) all some e answer so_far =
    sym (next_step layout total i rest s all some so_far) ∙ ap (turn layout total (total - (i + 1)) i s) e
    ∙ ap (follow layout total (total - (i + 1)) i rest_after) (no_state (refusal_of op s) refusal (after op s) answer)

pub is_done : (layout : Layout) (total i : ℕ) (rest : List ℕ) (s : SavedState) (all : Result SavedState BodyError) → length rest ≡ 0
    → BodySoFar layout total i rest s all → all ≡ Ok s
is_done layout total i rest s all none so_far = sym so_far.reads ∙ ended layout total (total - i) i rest s none

-- ---- a body that spells ops

go_after : (layout : Layout) (total n i : ℕ) (back : List ℕ) (o : Option SavedState) (others : List Op)
    → ((t : SavedState) → body_from layout total n (suc i) back t ≡ told_place (applied_from (suc i) others t))
    → follow layout total n i back o ≡ told_place (ok_or o i >>= λ t. applied_from (suc i) others t)
go_after layout total n i back None others h = refl
go_after layout total n i back (Some t) others h = h t

reads : (layout : Layout) (total n i : ℕ) (bytes : List ℕ) (s : SavedState) (ops : List Op) → ops_at layout n bytes ≡ Ok ops
    → body_from layout total n i bytes s ≡ told_place (applied_from i ops s)
unfolding ops_at body_from
reads layout total n i [] s ops e = ap (λ ops. told_place (applied_from i ops s)) (ok_is [] ops e)
reads layout total zero i (b ∷ rest) s ops e = absurd cc
reads layout total (suc n) i (b ∷ rest) s ops e =
    let first = bind_ok (op_at layout (b ∷ rest)) _ ops e in
    let others = bind_ok (ops_at layout n first.0.1) _ ops first.2 in
    let same = ok_is (first.0.0 ∷ others.0) ops others.2 in
    ap (turn layout total n i s) first.1
    ∙ go_after layout total n i first.0.1 (applied first.0.0 s) others.0 (λ t. reads layout total n (suc i) first.0.1 t others.0 others.1)
    ∙ ap (λ ops. told_place (applied_from i ops s)) same

whole : (bytes : List ℕ) (r : Result (List Op) ℕ) (ops : List Op) → in_bytes bytes r ≡ Ok ops → r ≡ Ok ops
whole bytes (Ok x) ops f = f
whole bytes (Err left) ops f = absurd cc

of_front : (layout : Layout) (b : Bool) (bytes : List ℕ) (s : SavedState) (ops : List Op) → eqb (length bytes) 0 ≡ b
    → front_ops layout bytes ≡ Ok ops
    → front_applied layout s bytes ≡ told_place (applied_from 0 ops s)
of_front layout true bytes s ops none e =
    let h : front_ops layout bytes ≡ Err 0 =
    ap (λ (b : Bool). cond b (Err 0) (in_bytes bytes (ops_at layout (length bytes) bytes))) none in
    absurd (let clash : Err 0 ≡ Ok ops = sym h ∙ e in cc)
of_front layout false bytes s ops some e =
    let h : front_ops layout bytes ≡ in_bytes bytes (ops_at layout (length bytes) bytes) =
    ap (λ (b : Bool). cond b (Err 0) (in_bytes bytes (ops_at layout (length bytes) bytes))) some in
    let k : front_applied layout s bytes ≡ body_from layout (length bytes) (length bytes) 0 bytes s =
    ap (λ (b : Bool). cond b (Err (BadOp 0)) (body_from layout (length bytes) (length bytes) 0 bytes s)) some in
    k ∙ reads layout (length bytes) (length bytes) 0 bytes s ops (whole bytes (ops_at layout (length bytes) bytes) ops (sym h ∙ e))

-- a body that spells ops does what they do in turn
pub spelled : (layout : Layout) (bytes : List ℕ) (s : SavedState) (ops : List Op) → ops_reading_in layout bytes ≡ Ok ops
    → body_applied_in layout bytes s ≡ told_place (applied_from 0 ops s)
spelled layout bytes s ops e =
    let front = bind_ok (unsealed layout.profile bytes) (front_ops layout) ops e in
    ap (λ (r : Result (List ℕ) ℕ). told_offset r >>= front_applied layout s) front.1
    ∙ of_front layout (eqb (length front.0) 0) front.0 s ops refl front.2

-- the ops of the front do what the body does
pub of_front_is : (layout : Layout) (bytes front : List ℕ) (s t : SavedState) (r : Result (Unit {0}) BodyError)
    → unsealed layout.profile bytes ≡ Ok front → GivesBody r t (front_applied layout s front) → GivesBody r t (body_applied_in layout bytes s)
of_front_is layout bytes front s t r e given =
    subst (GivesBody r t) (ap (λ (x : Result (List ℕ) ℕ). told_offset x >>= front_applied layout s) (sym e)) given
