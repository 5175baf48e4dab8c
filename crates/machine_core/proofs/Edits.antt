-- From the parts of an edit to what it means.
use Rattle.std.proofs.Common.{◌≡◌, ℕ, ◌+◌, Bool, true, false, not, [], length, nat_le, Some, None}
use Rattle.std.proofs.lemmas.Bool.Decides.{nat_tests}
use Rattle.command_text.specs.declared.refusal.CommandRefusal.{CommandRefusal}
use Rattle.command_text.specs.declared.refusal.CommandRefusal.TheVariants.{RequestTooLarge}
use Rattle.std.proofs.Common.{refl, sym, ◌∙◌, ap, subst, arith}
use Rattle.std.specs.Prelude.{Option, Result, Ok, Err, OnOk, IfErr, if◌then◌else◌}
use Rattle.std.specs.Result.{IsErrAnd, is_err}
use Rattle.profile.specs.declared.profile.Profile.{Profile}
use Rattle.state_codec.specs.Applied.{refusal_of, changes_nothing, after, applied, unless_refused as unless_fit}
use Rattle.state_codec.specs.Editing.{AnswersCheck}
use Rattle.state_codec.specs.SavedState.{SavedState}
use Rattle.state_codec.specs.Spelling.{ops_bytes}
use Rattle.state_codec.specs.declared.op.Op.{Op}
use Rattle.state_codec.specs.declared.refusal.OpRefusal.{OpRefusal}
use Rattle.machine_core.specs.Followed.{followed}
use Rattle.machine_core.specs.Meaning.{Meaning, Meant, edits, edited, made, stands, unless_refused}
use Rattle.machine_core.specs.Size.{max_request_bytes, within}
use Rattle.machine_core.specs.State.{MachineState}
use Rattle.machine_core.specs.Told.{op_told, told}
use Rattle.machine_core.specs.Work.{AddsNothing, IsRefusalOf, IsTooMuch, Performs}
use Rattle.machine_core.specs.declared.work.Failure.{Failure}
use Rattle.machine_core.specs.declared.work.Failure.TheVariants.{Refused, NoMemory}
use Rattle.machine_core.specs.declared.work.Work.{Work}

-- what a check that was refused says
pub refused_by : (T : Type 0) (refusal : Option OpRefusal) (e : OpRefusal) → AnswersCheck {T = T} refusal (Err e) → refusal ≡ Some e
refused_by T None e answer = absurd (cc)
refused_by T (Some refusal) e answer = cc

-- and one that wasn't
pub allowed_by : {T : Type 0} (refusal : Option OpRefusal) (x : T) → AnswersCheck refusal (Ok x) → refusal ≡ None
allowed_by None x answer = refl
allowed_by (Some refusal) x answer = absurd (cc)

-- an op that is refused refuses the command
pub refused_edits : (op : Op) (m : MachineState) (e : OpRefusal) (r : Result Bool Failure) →
    AnswersCheck {T = Bool} (refusal_of op m.saved) (Err e) → IsErrAnd r (λ failure. failure ≡ Refused (op_told e)) →
    (profile : Profile) (size : ℕ) → IfErr r (IsRefusalOf profile (edits op [] m) size)
unfolding edits
refused_edits op m e (Ok x) answer told_so profile size = tt
refused_edits op m e (Err failure) answer told_so profile size =
    subst (IsRefusalOf profile (edits op [] m) size) (sym told_so)
    (ap (λ o. within profile size (unless_refused (told o) (made op [] m))) (refused_by Bool (refusal_of op m.saved) e answer))

-- a command that was refused has done nothing
pub refused_failed : (meant : Meant) (m : MachineState) (work : Work) (failure : Failure) (r : Result (Unit {0}) Failure) →
    ((profile : Profile) (size : ℕ) → IsRefusalOf profile meant size failure) → IsErrAnd r (λ e. e ≡ failure) → Performs meant m m work work r
refused_failed meant m work failure (Ok x) refused is = absurd is
refused_failed meant m work failure (Err e) refused is = record {
  state = refl;
  nothing = record { text = refl; room = omega arith; ops = refl; size = refl };
  refusal = subst (IsRefusalOf m.saved.profile meant work.size) (sym is) (refused m.saved.profile work.size);
}

-- what holds of a call that was not refused
pub was_ok : {E : Type 0} → (r : Result (Unit {0}) E) (P : Type 0) → is_err r ≡ false → OnOk r P → P
was_ok (Ok x) P is h = h
was_ok (Err e) P is h = absurd (cc)

-- what an op that isn't refused means, where it changes something or not
abbrev pub meant_if : Op → MachineState → Bool → Meant
meant_if op m changes = Ok (if changes then edited op [] (followed op m) m else stands [] m)

-- an op that isn't refused is made, unless it changes nothing
pub looked_at : (op : Op) (m : MachineState) (changes : Bool) → refusal_of op m.saved ≡ None → changes ≡ not (changes_nothing op m.saved) →
    edits op [] m ≡ meant_if op m changes
unfolding edits
looked_at op m changes fits is =
    ap (λ o. unless_refused (told o) (made op [] m)) fits ∙ turned (changes_nothing op m.saved) ∙ ap (meant_if op m) (sym is)
  where
    turned : (b : Bool) → Ok (if b then stands [] m else edited op [] (followed op m) m) ≡ meant_if op m (not b)
    turned true = refl
    turned false = refl

-- an op that isn't refused was applied
pub applied_is : (op : Op) (s t : SavedState) → refusal_of op s ≡ None → applied op s ≡ Some t → after op s ≡ t
applied_is op s t fits done =
    let made : Some (after op s) ≡ Some t = ap (λ o. unless_fit o (after op s)) (sym fits) ∙ done in cc

abbrev refused_as : CommandRefusal → Meant
refused_as refusal = Err refusal

-- ops that are past the limit on a request, or that no memory was found for
pub too_much : (profile : Profile) (meant : Meant) (x : Meaning) (bytes : ℕ) (m : MachineState) (work done : Work) (failure : Failure)
    (r : Result (Unit {0}) Failure) → profile ≡ m.saved.profile → meant ≡ Ok x → bytes ≡ length (ops_bytes profile x.ops) →
    AddsNothing work done → IsTooMuch (work.size + bytes) failure → IsErrAnd r (λ e. e ≡ failure) → Performs meant m m work done r
too_much profile meant x bytes m work done failure (Ok u) under means size nothing large so = absurd so
too_much profile meant x bytes m work done failure (Err e) under means size nothing large so = record {
  state = refl;
  nothing = nothing;
  refusal = subst (IsRefusalOf m.saved.profile meant work.size) (sym so) (of failure large);
}
  where
    same : bytes ≡ length (ops_bytes m.saved.profile x.ops)
    same = size ∙ ap (λ (p : Profile). length (ops_bytes p x.ops)) under

    of : (failure : Failure) → IsTooMuch (work.size + bytes) failure → IsRefusalOf m.saved.profile meant work.size failure
    of (Refused refusal) large =
        let above : nat_le (work.size + length (ops_bytes m.saved.profile x.ops)) max_request_bytes ≡ false =
        grind (arith, nat_tests, large.1, same) in
        ap (within m.saved.profile work.size) means ∙ ap (λ b. if b then Ok x else Err RequestTooLarge) above
        ∙ ap refused_as (sym large.0)
    of NoMemory large = tt
