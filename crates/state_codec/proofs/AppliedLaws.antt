-- Ops applied one after the other.
use Rattle.std.proofs.Common.{◌≡◌, ℕ, suc, List, [], ◌∷◌, ◌++◌, Option, Some, None, Result, Ok, Err, refl, sym, subst, ◌∙◌}
use Rattle.std.specs.Prelude.{IfSome, OnOk}
use Rattle.std.specs.Option.{option_and_then, ok_or}
use Rattle.std.specs.Result.{result_ok}
use Rattle.std.specs.List.{AllByRecursion}
use Rattle.profile.specs.declared.profile.Profile.{Profile}
use Rattle.profile.specs.declared.profile.Profile.TheVariants.{Named, Wide}
use Rattle.state_codec.specs.declared.op.Op.{Op}
use Rattle.state_codec.specs.declared.op.Op.TheVariants.{SetOption, SetVolume, SetOrder, Queue, List as Lists, Sticker, Batch, Place, Timed}
use Rattle.state_codec.specs.declared.op.queue_op.QueueOp.{QueueOp}
use Rattle.state_codec.specs.declared.op.queue_op.QueueOp.TheVariants as queue
use Rattle.state_codec.specs.Changes.{are_kept}
use Rattle.state_codec.specs.declared.refusal.OpRefusal.{OpRefusal}
use Rattle.state_codec.specs.SavedState.{SavedState, IsSavedState}
use Rattle.state_codec.specs.Ops.{IsOp, IsKeptOp, KeepsPlace}
use Rattle.state_codec.specs.OpsPlace.{place_refusal}
use Rattle.state_codec.specs.OpsQueue.{after_queue}
use Rattle.state_codec.specs.Steps.{◌>>=◌}
use Rattle.state_codec.specs.Applied.{refusal_of, after, unless_refused, applied, applied_from, all_applied}
use Rattle.state_codec.specs.Editing.{AnswersApply, IsEdit}
use Rattle.state_codec.specs.declared.refusal.ApplyError.{ApplyError}
use Rattle.state_codec.proofs.KeptOps.{kept_none, kept_after}

-- the place at which counting begins has no part in the state
from_any : (i j : ℕ) (ops : List Op) (s : SavedState) → result_ok (applied_from i ops s) ≡ result_ok (applied_from j ops s)
from_any i j [] s = refl
from_any i j (op ∷ ops) s =
    elim (applied op s) as (λ o. result_ok (ok_or o i >>= λ t. applied_from (suc i) ops t)
    ≡ result_ok (ok_or o j >>= λ t. applied_from (suc j) ops t)) [
      | None ↦ refl
      | Some t ↦ from_any (suc i) (suc j) ops t
    ]

joined_from : (i : ℕ) (a b : List Op) (s : SavedState)
    → result_ok (applied_from i (a ++ b) s) ≡ option_and_then (all_applied b) (result_ok (applied_from i a s))
joined_from i [] b s = from_any i 0 b s
joined_from i (op ∷ a) b s =
    elim (applied op s) as (λ o. result_ok (ok_or o i >>= λ t. applied_from (suc i) (a ++ b) t)
    ≡ option_and_then (all_applied b) (result_ok (ok_or o i >>= λ t. applied_from (suc i) a t))) [
      | None ↦ refl
      | Some t ↦ joined_from (suc i) a b t
    ]

pub all_applied-append : (a b : List Op) (s : SavedState) → all_applied (a ++ b) s ≡ option_and_then (all_applied b) (all_applied a s)
all_applied-append a b s = joined_from 0 a b s

pub applied_in_range : (op : Op) (s : SavedState) → IsOp op → IsSavedState s → IfSome (applied op s) IsSavedState
applied_in_range op s form saved = of (refusal_of op s) refl
  where
    of : (o : Option OpRefusal) → refusal_of op s ≡ o → IfSome (unless_refused o (after op s)) IsSavedState
    of None none = kept_after op s form saved none
    of (Some refusal) refused = tt

from_in_range : (i : ℕ) (ops : List Op) (s : SavedState) → AllByRecursion IsOp ops → IsSavedState s
    → IfSome (result_ok (applied_from i ops s)) IsSavedState
from_in_range i [] s fits good = good
from_in_range i (op ∷ ops) s fits good =
    (elim (applied op s) as (λ o. IfSome o IsSavedState → IfSome (result_ok (ok_or o i >>= λ t. applied_from (suc i) ops t)) IsSavedState) [
      | None ↦ λ h. tt
      | Some t ↦ λ h. from_in_range (suc i) ops t fits.1 h
    ]) (applied_in_range op s fits.0 good)

pub all_applied_in_range : (ops : List Op) (s : SavedState) → AllByRecursion IsOp ops → IsSavedState s
    → IfSome (all_applied ops s) IsSavedState
all_applied_in_range ops s fits good = from_in_range 0 ops s fits good

-- an op that applies has rows alone that the profile keeps
kept_op : (op : Op) (s : SavedState) → refusal_of op s ≡ None → IsKeptOp s.profile op
kept_op (SetOption setting) s none = tt
kept_op (SetVolume volume) s none = tt
kept_op (SetOrder order) s none = tt
kept_op (Queue op) s none = tt
kept_op (Lists op) s none = tt
kept_op (Sticker op) s none = tt
kept_op (Batch changes) s none = (kept_none (are_kept s.profile changes) _ none).0
kept_op (Place op) s none = of s.profile none
  where
    of : (p : Profile) → place_refusal p ≡ None → KeepsPlace p
    of Named none = absurd (cc)
    of Wide none = tt
kept_op (Timed seconds) s none = of s.profile none
  where
    of : (p : Profile) → place_refusal p ≡ None → KeepsPlace p
    of Named none = absurd (cc)
    of Wide none = tt

queue_profile : (op : QueueOp) (s : SavedState) → (after_queue op s).profile ≡ s.profile
queue_profile (queue.Add at rows) s = refl
queue_profile (queue.Delete start end) s = refl
queue_profile (queue.Move start end to) s = refl
queue_profile (queue.Swap one other) s = refl
queue_profile (queue.Shuffle start end) s = refl
queue_profile (queue.Prio priority ranges) s = refl

-- and leaves the profile as it is
pub same_profile : (op : Op) (s : SavedState) → (after op s).profile ≡ s.profile
same_profile (SetOption setting) s = refl
same_profile (SetVolume volume) s = refl
same_profile (SetOrder order) s = refl
same_profile (Queue op) s = queue_profile op s
same_profile (Lists op) s = refl
same_profile (Sticker op) s = refl
same_profile (Batch changes) s = refl
same_profile (Place op) s = refl
same_profile (Timed seconds) s = refl

-- what ops that apply one after the other keep
abbrev pub KeepsProfile : List Op → SavedState → SavedState → Type 0
KeepsProfile ops s after = AllByRecursion (IsKeptOp s.profile) ops × (after.profile ≡ s.profile)

one_kept : (op : Op) (s : SavedState) → IfSome (applied op s) (λ t. IsKeptOp s.profile op × (t.profile ≡ s.profile))
one_kept op s = of (refusal_of op s) refl
  where
    of : (o : Option OpRefusal) → refusal_of op s ≡ o
        → IfSome (unless_refused o (after op s)) (λ t. IsKeptOp s.profile op × (t.profile ≡ s.profile))
    of None none = (kept_op op s none, same_profile op s)
    of (Some refusal) refused = tt

from_kept : (i : ℕ) (ops : List Op) (s : SavedState) → IfSome (result_ok (applied_from i ops s)) (KeepsProfile ops s)
from_kept i [] s = (tt, refl)
from_kept i (op ∷ ops) s =
    (elim (applied op s) as (λ o. IfSome o (λ t. IsKeptOp s.profile op × (t.profile ≡ s.profile))
    → IfSome (result_ok (ok_or o i >>= λ t. applied_from (suc i) ops t)) (KeepsProfile (op ∷ ops) s)) [
      | None ↦ λ h. tt
      | Some t ↦ λ h. joined t h (result_ok (applied_from (suc i) ops t)) (from_kept (suc i) ops t)
    ]) (one_kept op s)
  where
    joined : (t : SavedState) → IsKeptOp s.profile op × (t.profile ≡ s.profile) → (o : Option SavedState) → IfSome o (KeepsProfile ops t)
        → IfSome o (KeepsProfile (op ∷ ops) s)
    joined t first None rest = tt
    joined t first (Some u) rest =
        ((first.0, subst (λ (p : Profile). AllByRecursion (IsKeptOp p) ops) first.1 rest.0), rest.1 ∙ first.1)

pub all_applied_kept : (ops : List Op) (s : SavedState) → IfSome (all_applied ops s) (KeepsProfile ops s)
all_applied_kept ops s = from_kept 0 ops s

-- what an edit leaves, refused or not
pub kept_edit : (op : Op) (s t : SavedState) (r : Result (Unit {0}) ApplyError) → OnOk r (IsOp op) → IsSavedState s
    → IsEdit (refusal_of op s) (after op s) s t r → IsSavedState t
kept_edit op s t (Err e) form saved edit = subst IsSavedState (sym edit.err) saved
kept_edit op s t (Ok x) form saved edit = subst IsSavedState (sym edit.ok) (kept_after op s form saved (of (refusal_of op s) edit.answer))
  where
    of : (o : Option OpRefusal) → AnswersApply o (Ok x) → o ≡ None
    of None answer = refl
    of (Some refusal) answer = absurd (cc)
