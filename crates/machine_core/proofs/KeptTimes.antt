-- When the playlists were changed, behind a command: nothing, or one op that changes their times alone.
use Rattle.std.proofs.Common.{◌≡◌, ◌⊎◌, inl, inr, ℕ, Bool, true, false, cond, List, [], ◌∷◌, ◌++◌, Some, refl, sym, ap, subst, ◌∙◌}
use Rattle.std.specs.List.{list_any}
use Rattle.std.specs.Option.{ok_or, option_and_then}
use Rattle.std.specs.Result.{result_ok}
use Rattle.std.proofs.lemmas.Bool.{false≢true}
use Rattle.std.proofs.lemmas.List.{append-nil}
use Rattle.profile.specs.declared.profile.Profile.{Profile}
use Rattle.profile.specs.declared.profile.Profile.TheVariants.{Named, Wide}
use Rattle.state_codec.specs.Applied.{after, all_applied, applied_from, changes_nothing, unless_refused}
use Rattle.state_codec.specs.OpsPlace.{place_refusal}
use Rattle.state_codec.specs.SavedState.{SavedState}
use Rattle.state_codec.specs.Steps.{◌>>=◌}
use Rattle.state_codec.specs.declared.op.Op.{Op}
use Rattle.state_codec.specs.declared.op.Op.TheVariants.{Timed}
use Rattle.state_codec.proofs.AppliedLaws.{all_applied-append}
use Rattle.machine_core.specs.Before.{is_of_lists}
use Rattle.machine_core.specs.Keeping.{if_kept, time_ops, times, with_ops}
use Rattle.machine_core.specs.Meaning.{Meaning}
use Rattle.machine_core.specs.State.{keeping, MachineState}
use Rattle.machine_core.proofs.KeepingLaws.{kept_wide}

-- the op that tells what the clock told
abbrev pub time_op : Meaning → Op
time_op z = Timed z.after.clock.now

-- a meaning behind which it is made
abbrev pub with_time_op : Meaning → Meaning
with_time_op z =
    record z { ops = z.ops ++ time_op z ∷ []; after = record z.after { saved = after (time_op z) z.after.saved } }

pub record AddsTime (m : MachineState) (z x : Meaning) : Type 0 where
  pub wide : m.saved.profile ≡ Wide
  pub lists : list_any is_of_lists z.ops ≡ true
  pub changes : changes_nothing (time_op z) z.after.saved ≡ false
  pub is : x ≡ with_time_op z

pub times_are : (m : MachineState) (z : Meaning) → (times m z ≡ z) ⊎ AddsTime m z (times m z)
times_are m z = of (keeping m) (λ is. kept_wide m is) (list_any is_of_lists z.ops) refl (changes_nothing (time_op z) z.after.saved) refl
  where
    by : List Op → Meaning
    by ops = record z { ops = z.ops ++ ops; after = with_ops ops z.after }

    none : by [] ≡ z
    none = ap (λ (ops : List Op). record z { ops = ops }) (append-nil z.ops)

    of : (p : Profile) → (p ≡ Wide → m.saved.profile ≡ Wide) → (b : Bool) → list_any is_of_lists z.ops ≡ b
        → (c : Bool) → changes_nothing (time_op z) z.after.saved ≡ c
        → (by (if_kept p (cond b (cond c [] (time_op z ∷ [])) [])) ≡ z)
        ⊎ AddsTime m z (by (if_kept p (cond b (cond c [] (time_op z ∷ [])) [])))
    of Named named b has c changes = inl none
    of Wide wide false has c changes = inl none
    of Wide wide true has true changes = inl none
    of Wide wide true has false changes = inr (record { wide = wide refl; lists = has; changes = changes; is = refl })

-- what holds of a meaning, and of one behind which the op is made, holds with the times
pub times_keep : (R : Meaning → Type 0) (m : MachineState) (z : Meaning) → R z
    → (m.saved.profile ≡ Wide → list_any is_of_lists z.ops ≡ true → changes_nothing (time_op z) z.after.saved ≡ false → R (with_time_op z))
    → R (times m z)
times_keep R m z holds more = of (times_are m z)
  where
    of : ((times m z ≡ z) ⊎ AddsTime m z (times m z)) → R (times m z)
    of (inl same) = subst R (sym same) holds
    of (inr adds) = subst R (sym adds.is) (more adds.wide adds.lists adds.changes)

-- it is never refused
time_applied : (seconds : ℕ) (s : SavedState) → s.profile ≡ Wide → all_applied (Timed seconds ∷ []) s ≡ Some (after (Timed seconds) s)
time_applied seconds s wide =
    ap (λ (p : Profile). result_ok (ok_or (unless_refused (place_refusal p) (after (Timed seconds) s)) 0 >>= λ t. applied_from 1 [] t)) wide

pub times_rebuilt : (m : MachineState) (z : Meaning) → z.after.saved.profile ≡ m.saved.profile
    → all_applied z.ops m.saved ≡ Some z.after.saved
    → all_applied (times m z).ops m.saved ≡ Some (times m z).after.saved
times_rebuilt m z same is =
    times_keep (λ x. all_applied x.ops m.saved ≡ Some x.after.saved) m z is (λ wide lists changes.
    all_applied-append z.ops (time_op z ∷ []) m.saved ∙ ap (option_and_then (all_applied (time_op z ∷ []))) is
    ∙ time_applied z.after.clock.now z.after.saved (same ∙ wide))

-- no op where none was made in front of it
no_lists : (z : Meaning) → z.ops ≡ [] → list_any is_of_lists z.ops ≡ false
no_lists z empty = ap (list_any is_of_lists) empty

pub times_of_none : (m : MachineState) (z : Meaning) → z.ops ≡ [] → times m z ≡ z
times_of_none m z empty = of (times_are m z)
  where
    of : ((times m z ≡ z) ⊎ AddsTime m z (times m z)) → times m z ≡ z
    of (inl same) = same
    of (inr adds) = absurd (false≢true (sym (no_lists z empty) ∙ adds.lists))

-- and what was made in front of it stays
front_none : (ops more : List Op) → ops ++ more ≡ [] → ops ≡ []
front_none [] more none = refl
front_none (op ∷ ops) more none = absurd (cc)

pub none_behind : (m : MachineState) (z : Meaning) → (times m z).ops ≡ [] → z.ops ≡ []
none_behind m z empty = front_none z.ops (if_kept (keeping m) (time_ops z.ops z.after)) empty
