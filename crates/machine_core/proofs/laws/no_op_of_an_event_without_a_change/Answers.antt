use Rattle.std.proofs.Common.{◌≡◌, ◌↔◌, refl, sym, ap, subst, Bool, true, false, cond, if◌then◌else◌}
use Rattle.std.proofs.Common.{List, [], ◌∷◌, ◌++◌, ℕ, Option, Some, None}
use Rattle.std.proofs.lemmas.Bool.{false≢true}
use Rattle.player_core.specs.Ending.{ended}
use Rattle.player_core.specs.Reports.{failed}
use Rattle.song_db.specs.declared.change.RowChange.{RowChange}
use Rattle.state_codec.specs.Applied.{after_all}
use Rattle.state_codec.specs.declared.op.Op.{Op}
use Rattle.state_codec.specs.declared.op.Op.TheVariants.{Batch}
use Rattle.machine_core.specs.Followed.{followed}
use Rattle.machine_core.specs.Happening.{nothing_happens}
use Rattle.machine_core.specs.Keeping.{keeps_place, kept_event}
use Rattle.machine_core.specs.Meaning.{order_ops}
use Rattle.machine_core.specs.Room.{caught, is_idle, room_back, when_room}
use Rattle.machine_core.specs.Scanning.{finds, is_running, kept_changes, telling, spared}
use Rattle.machine_core.specs.State.{MachineState, lacks_room, settings_of, told_room}
use Rattle.machine_core.specs.Steps.{steps}
use Rattle.machine_core.specs.declared.steps.PlayerStep.TheVariants.{Ended, Failed}
use Rattle.machine_core.proofs.FullLaws.{broken_saves_nothing, either_step, ended_saves_nothing}
use Rattle.machine_core.proofs.KeepingLaws.{keep_itself}
use Rattle.machine_core.proofs.KeptLaws.{at_none, keeps_none, nothing_kept, when_kept_none, when_kept_same}
use Rattle.machine_core.proofs.StepsLawful.{moves_lawful}
use Rattle.machine_core.proofs.laws.no_op_of_an_event_without_a_change.Goals as goal

pub returns-clause-none : goal.returns-clause-none
returns-clause-none c = λ ticket m saved.
    either_step (λ h. h.after.saved ≡ m.saved → h.ops ≡ []) m (λ settings. ended m.saved.queue.entries settings m.player ticket)
    (λ lacks same. (ended_saves_nothing ticket m lacks).ops)
    (λ room same. keeps_none m _ (moves_lawful (Ended ticket) m) saved same)

pub returns-clause-same : goal.returns-clause-same
returns-clause-same c = λ ticket m.
    either_step (λ h. h.ops ≡ [] → h.after.saved ≡ m.saved) m (λ settings. ended m.saved.queue.entries settings m.player ticket)
    (λ lacks empty. (ended_saves_nothing ticket m lacks).same)
    (λ room empty.
    let x = steps (ended m.saved.queue.entries (settings_of m.saved) m.player ticket) m in
    let lawful = moves_lawful (Ended ticket) m in
    nothing_kept m x.after x.ops lawful.rebuilt empty)

pub returns-clause-broken_none : goal.returns-clause-broken_none
returns-clause-broken_none c = λ ticket cause m saved.
    either_step (λ h. h.after.saved ≡ m.saved → h.ops ≡ []) m (λ settings. failed m.saved.queue.entries settings m.player ticket cause)
    (λ lacks same. (broken_saves_nothing ticket cause m lacks).ops)
    (λ room same. keeps_none m _ (moves_lawful (Failed ticket cause) m) saved same)

pub returns-clause-broken_same : goal.returns-clause-broken_same
returns-clause-broken_same c = λ ticket cause m.
    either_step (λ h. h.ops ≡ [] → h.after.saved ≡ m.saved) m (λ settings. failed m.saved.queue.entries settings m.player ticket cause)
    (λ lacks empty. (broken_saves_nothing ticket cause m lacks).same)
    (λ room empty.
    let x = steps (failed m.saved.queue.entries (settings_of m.saved) m.player ticket cause) m in
    let lawful = moves_lawful (Failed ticket cause) m in
    nothing_kept m x.after x.ops lawful.rebuilt empty)

behind_order : (order : Option ℕ) (op : Op) → order_ops order ++ op ∷ [] ≡ [] → ⊥
behind_order None op e = absurd (cc)
behind_order (Some g) op e = absurd (cc)

finds_none : (told : List RowChange) (m : MachineState) → (finds told m).ops ≡ [] → told ≡ []
finds_none [] m e = refl
finds_none (change ∷ told) m e = absurd (behind_order (followed (Batch (change ∷ told)) m).order (Batch (change ∷ told)) e)

-- nothing in front of what is kept
front_none : (front behind : List Op) → front ++ behind ≡ [] → front ≡ []
front_none [] behind e = refl
front_none (op ∷ front) behind e = absurd (cc)

of_running : (runs lacks : Bool) (told : List RowChange) (m : MachineState) → runs ≡ true → lacks ≡ false
    → ((kept_event m (if runs then (if lacks then nothing_happens m else finds told m) else nothing_happens m)).ops ≡ [] ↔ told ≡ [])
of_running true false told m is room = (
  λ empty. finds_none told m (front_none (finds told m).ops _ empty),
  λ e. subst (λ (t : List RowChange). (kept_event m (finds t m)).ops ≡ []) (sym e) (keep_itself m),
)
of_running true true told m is room = absurd (false≢true (sym room))
of_running false lacks told m is room = absurd (false≢true is)

pub returns-clause-found : goal.returns-clause-found
returns-clause-found c = λ job changes m runs room.
    of_running (is_running job m) (lacks_room m) (telling m.saved.songs (kept_changes m.saved.profile (spared m changes))) m runs room

pub returns-clause-kept_none : goal.returns-clause-kept_none
returns-clause-kept_none c = λ ticket m saved same. when_kept_none ticket m same

pub returns-clause-kept_same : goal.returns-clause-kept_same
returns-clause-kept_same c = when_kept_same

caught_none : (b : Bool) (m : MachineState)
    → let h = cond b (nothing_happens (told_room true m)) (keeps_place (caught m)) in h.after.saved ≡ m.saved → h.ops ≡ []
caught_none true m same = refl
caught_none false m same = at_none (caught m) same

back_none : (b : Bool) (m : MachineState) → let h = room_back b m in h.after.saved ≡ m.saved → h.ops ≡ []
back_none true m same = caught_none (is_idle m.player) m same
back_none false m same = refl

room_none : (is_there : Bool) (m : MachineState) → let h = when_room is_there m in h.after.saved ≡ m.saved → h.ops ≡ []
room_none false m same = refl
room_none true m same = back_none (lacks_room m) m same

pub returns-clause-told_none : goal.returns-clause-told_none
returns-clause-told_none c = λ is_there m saved same. room_none is_there m same

caught_same : (b : Bool) (m : MachineState)
    → let h = cond b (nothing_happens (told_room true m)) (keeps_place (caught m)) in h.ops ≡ [] → h.after.saved ≡ m.saved
caught_same true m empty = refl
caught_same false m empty = ap (λ (ops : List Op). after_all ops m.saved) empty

back_same : (b : Bool) (m : MachineState) → let h = room_back b m in h.ops ≡ [] → h.after.saved ≡ m.saved
back_same true m empty = caught_same (is_idle m.player) m empty
back_same false m empty = refl

room_same : (is_there : Bool) (m : MachineState) → let h = when_room is_there m in h.ops ≡ [] → h.after.saved ≡ m.saved
room_same false m empty = refl
room_same true m empty = back_same (lacks_room m) m empty

pub returns-clause-told_same : goal.returns-clause-told_same
returns-clause-told_same c = room_same
