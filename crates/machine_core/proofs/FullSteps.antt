-- What an event does while the journal's disk is full, and once there is room again, happened as it must.
use Rattle.std.proofs.Common.{◌≡◌, ℕ, ◌+◌, ◌≤◌, Bool, true, false, cond, ◌&&◌, List, [], Option, Result, Ok, Err}
use Rattle.std.proofs.Common.{refl, sym, ap, subst, ◌∙◌, arith}
use Rattle.std.proofs.lemmas.Bool.{false≢true}
use Rattle.std.specs.Result.{IfOk, OnOk, is_err}
use Rattle.idle_masks.specs.Subsystems.{none}
use Rattle.player_core.specs.Player.{Step}
use Rattle.player_core.specs.declared.refusal.PlayerError.{PlayerError}
use Rattle.profile.specs.declared.profile.Profile.{Profile}
use Rattle.profile.specs.declared.profile.Profile.TheVariants.{Named, Wide}
use Rattle.state_codec.specs.SavedState.{IsSavedState}
use Rattle.state_codec.specs.Sealed.{checksum_len}
use Rattle.state_codec.specs.declared.op.Op.{Op}
use Rattle.machine_core.specs.Before.{before_of, changed_since}
use Rattle.machine_core.specs.Happening.{HasHappened, Happening, nothing_happens}
use Rattle.machine_core.specs.Keeping.{if_kept, keeps_place, place_ops, with_ops}
use Rattle.machine_core.specs.Reports.{happens}
use Rattle.machine_core.specs.Room.{catches_up, caught, is_idle, room_back, when_room}
use Rattle.machine_core.specs.State.{MachineState, keeping, lacks_room, lacks_under, told_room}
use Rattle.machine_core.specs.Steps.{steps, unsaved}
use Rattle.machine_core.specs.declared.changed.Before.{Before}
use Rattle.machine_core.specs.declared.happened.Happened.{Happened}
use Rattle.machine_core.proofs.KeepingLaws.{at_applied, at_short}
use Rattle.machine_core.proofs.ReportsLaws.{player_happened}
use Rattle.machine_core.proofs.Sizes.{body_short, none_short}

-- what happened as one happening says happened as the same one says
pub happened_as : {m n : MachineState} {happened : Happened} (h k : Happening) → h ≡ k → HasHappened h m n happened
    → HasHappened k m n happened
happened_as {m = m} {n = n} {happened = happened} h k same has = subst (λ (g : Happening). HasHappened g m n happened) same has

-- ---- a step that changes the player alone

pub unsaved_happened : (r : Result Step PlayerError) (a : Result (Unit {0}) PlayerError) (m n : MachineState) (happened : Happened)
    (before : Before) (made : List Op) → IsSavedState m.saved → is_err a ≡ false
    → IfOk r (λ s. OnOk a (n ≡ record m { player = s.player })) → happened.ops.items ≡ [] → made ≡ [] → before ≡ before_of m
    → happened.changed ≡ changed_since before made n → IfOk r (λ s. HasHappened (happens (steps (unsaved s) m) m) m n happened)
unsaved_happened (Err e) a m n happened before made kept fine alone ops gained is told = tt
unsaved_happened (Ok s) (Err e) m n happened before made kept fine alone ops gained is told = absurd (cc)
unsaved_happened (Ok s) (Ok u) m n happened before made kept fine alone ops gained is told =
    player_happened s.player m n happened before made kept alone ops gained is told

-- what holds of a call that goes well holds of one that didn't fail
pub on_ok : (P : Type 0) (a : Result (Unit {0}) PlayerError) → is_err a ≡ false → OnOk a P → P
on_ok P (Err e) fine is = absurd (cc)
on_ok P (Ok u) fine is = is

-- ---- it is told that there is room, or that there is none

pub and_second : (a b : Bool) → (a && b) ≡ true → b ≡ true
and_second true b is = is
and_second false b is = absurd (false≢true is)

pub back_caught : (is_there : Bool) (m : MachineState) → (is_there && lacks_room m) ≡ true → when_room is_there m ≡ catches_up m
back_caught true m lacks = ap (λ (b : Bool). room_back b m) lacks
back_caught false m lacks = absurd (false≢true lacks)

pub told_alone : (is_there : Bool) (m : MachineState) → (is_there && lacks_room m) ≡ false
    → when_room is_there m ≡ nothing_happens (told_room is_there m)
told_alone true m room = ap (λ (b : Bool). room_back b m) room
told_alone false m room = refl

-- nothing but that is told
pub room_told : (is_there : Bool) (m n : MachineState) (happened : Happened) → n ≡ told_room is_there m → happened.ops.items ≡ []
    → happened.changed ≡ none → HasHappened (nothing_happens (told_room is_there m)) m n happened
room_told is_there m n happened state ops told =
    record { state = state; ops = ops; changed = told; rebuilt = refl; fits = none_short m.saved.profile }

pub idle_caught : (m : MachineState) → is_idle m.player ≡ true → catches_up m ≡ nothing_happens (told_room true m)
idle_caught m idle = ap (λ (b : Bool). cond b (nothing_happens (told_room true m)) (keeps_place (caught m))) idle

pub begun_caught : (m : MachineState) → is_idle m.player ≡ false → catches_up m ≡ keeps_place (caught m)
begun_caught m begun = ap (λ (b : Bool). cond b (nothing_happens (told_room true m)) (keeps_place (caught m))) begun

-- what lacks room is of the wide profile, which keeps places once there is room
pub lacks_wide : (profile : Profile) (has_room : Bool) → lacks_under profile has_room ≡ true → profile ≡ Wide
lacks_wide Named has_room lacks = absurd (false≢true lacks)
lacks_wide Wide has_room lacks = refl

pub caught_keeps : (m : MachineState) → lacks_room m ≡ true → keeping (caught m) ≡ Wide
caught_keeps m lacks =
    ap (λ (p : Profile). cond (lacks_under p true) Named p) (lacks_wide m.saved.profile m.has_room lacks)

sum_short : (profile : Profile) → checksum_len profile ≤ 4
sum_short Named = omega arith
sum_short Wide = omega arith

-- where the player is then was kept
pub caught_up : (m k n : MachineState) (happened : Happened) (before : Option ℕ) → lacks_room m ≡ true → is_idle m.player ≡ false
    → k ≡ caught m → before ≡ k.player.current → n ≡ with_ops (place_ops before k.player k.saved k.saved.place) k
    → happened.ops.items ≡ place_ops before k.player k.saved k.saved.place → happened.changed ≡ none
    → HasHappened (catches_up m) m n happened
caught_up m k n happened before lacks begun is here stands ops told =
    subst (λ (h : Happening). HasHappened h m n happened) (sym (begun_caught m begun)) (record {
      state = stands ∙ (λ i. with_ops (sym all i) (is i));
      ops = ops ∙ sym all;
      changed = told;
      rebuilt = at_applied q;
      fits = body_short m.saved.profile (keeps_place q).ops
          (omega (arith, at_short m.saved.profile q, sum_short m.saved.profile));
    })
  where
    q : MachineState
    q = caught m

    all : (keeps_place q).ops ≡ place_ops before k.player k.saved k.saved.place
    all =
        ap (λ (p : Profile). if_kept p (place_ops q.player.current q.player q.saved q.saved.place)) (caught_keeps m lacks)
        ∙ ap (λ (x : MachineState). place_ops x.player.current x.player x.saved x.saved.place) (sym is)
        ∙ ap (λ (o : Option ℕ). place_ops o k.player k.saved k.saved.place) (sym here)
