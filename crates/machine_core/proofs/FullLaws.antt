-- While the journal's disk is full: a command that has no byte for an op makes none.
use Rattle.std.proofs.Common.{◌≡◌, ℕ, ◌+◌, ◌<◌, ◌≤◌, Bool, true, false, List, [], ◌∷◌, ◌++◌, length, length-append, cond, Result, Ok, Err, arith}
use Rattle.std.proofs.Common.{refl, sym, ap, subst, ◌∙◌}
use Rattle.std.proofs.lemmas.Bool.{lt-leb}
use Rattle.std.specs.Prelude.{nat_le, vec_capacity, vec_len}
use Rattle.command_text.specs.declared.refusal.CommandRefusal.{CommandRefusal}
use Rattle.command_text.specs.declared.refusal.CommandRefusal.TheVariants.{RequestTooLarge}
use Rattle.profile.specs.declared.profile.Profile.{Profile}
use Rattle.state_codec.specs.Spelling.{ops_bytes}
use Rattle.state_codec.specs.SpellingOps.{op_bytes}
use Rattle.state_codec.specs.declared.op.Op.{Op}
use Rattle.player_core.specs.Ending.{ended}
use Rattle.player_core.specs.Player.{Step}
use Rattle.player_core.specs.Reports.{counts, failed}
use Rattle.player_core.specs.declared.failure.BrokenCause.{BrokenCause}
use Rattle.player_core.specs.declared.settings.PlaySettings.{PlaySettings}
use Rattle.profile.specs.declared.profile.Profile.TheVariants.{Named, Wide}
use Rattle.song_db.specs.declared.change.RowChange.{RowChange}
use Rattle.state_codec.specs.Applied.{after_all}
use Rattle.machine_core.specs.Front.{front_of}
use Rattle.machine_core.specs.Happening.{Happening, if_room, nothing_happens}
use Rattle.machine_core.specs.Keeping.{goes_on, if_kept, keep_ops, keeps_place, kept, kept_event, place_ops, time_ops, times, keeps}
use Rattle.machine_core.specs.Keeping.{when_kept, with_ops}
use Rattle.machine_core.specs.Meaning.{Meaning, Meant}
use Rattle.machine_core.specs.Reports.{happens, when_broken, when_ended}
use Rattle.machine_core.specs.Room.{SavesNothing, full, saves_nothing, told_of, under_room, without_room}
use Rattle.machine_core.specs.Size.{max_request_bytes, within}
use Rattle.machine_core.specs.Scanning.{finds, is_running, kept_changes, telling, when_found, spared}
use Rattle.machine_core.specs.State.{MachineState, keeping, lacks_room, settings_of}
use Rattle.machine_core.specs.Steps.{stepping, steps, unsaved, without_consume}
use Rattle.machine_core.specs.Work.{AddsNothing, Performs, command_room}
use Rattle.machine_core.specs.declared.work.Failure.{Failure}
use Rattle.machine_core.specs.declared.work.Failure.TheVariants.{NoMemory, Refused}
use Rattle.machine_core.specs.declared.work.Work.{Work}

-- each op takes a byte at least
abbrev pub EachTakesSome : Type 0
EachTakesSome = (profile : Profile) (op : Op) → 0 < length (op_bytes profile op)

-- where ops take no byte there is none
pub none_without_bytes : EachTakesSome → (profile : Profile) (ops : List Op) → length (ops_bytes profile ops) ≡ 0 → ops ≡ []
none_without_bytes some profile [] none = refl
none_without_bytes some profile (op ∷ ops) none =
    absurd (omega (arith, none, some profile op, length-append (op_bytes profile op) (ops_bytes profile ops)))

-- a meaning without ops is what it was
kept_without : (x : Meaning) (ops : List Op) → ops ≡ [] → saves_nothing x ops ≡ Ok x
kept_without x ops none = ap (saves_nothing x) none

-- a refusal where no byte is left is that of a full disk, or the command's own
pub refused_full : EachTakesSome → (profile : Profile) (meant : Meant) (refusal : CommandRefusal)
    → within profile max_request_bytes meant ≡ Err refusal → without_room meant ≡ Err (full refusal)
refused_full some profile (Err own) refusal is = ap without_room is
refused_full some profile (Ok x) refusal is = of x.ops refl
  where
    says_so : Meaning → Meant
    says_so y = Ok y

    ok_is_no_err : (y : Meaning) (r : CommandRefusal) → says_so y ≡ Err r → ⊥
    ok_is_no_err y r same = cc

    of : (ops : List Op) → x.ops ≡ ops → saves_nothing x x.ops ≡ Err (full refusal)
    of [] none =
        let fits : nat_le (max_request_bytes + length (ops_bytes profile x.ops)) max_request_bytes ≡ true =
        ap (λ (l : List Op). nat_le (max_request_bytes + length (ops_bytes profile l)) max_request_bytes) none in
        absurd (ok_is_no_err x refusal (sym (ap (λ (b : Bool). cond b (Ok x) (Err RequestTooLarge)) fits) ∙ is))
    of (op ∷ ops) made =
        let bytes : 0 < length (ops_bytes profile x.ops) = subst (λ (l : List Op). 0 < length (ops_bytes profile l)) (sym made)
        (omega (arith, some profile op, length-append (op_bytes profile op) (ops_bytes profile ops))) in
        let past : nat_le (max_request_bytes + length (ops_bytes profile x.ops)) max_request_bytes ≡ false =
        lt-leb (max_request_bytes + length (ops_bytes profile x.ops)) max_request_bytes (omega (arith, bytes)) in
        ap (saves_nothing x) made
        ∙ ap without_room (sym (ap (λ (b : Bool). cond b (Ok x) (Err RequestTooLarge)) past) ∙ is)

nothing_added : (work filled done emptied : Work)
    → (filled.size ≡ max_request_bytes) × ((filled.text ≡ work.text) × (filled.ops ≡ work.ops))
    → (emptied.size ≡ work.size) × ((emptied.text ≡ done.text) × (emptied.ops ≡ done.ops))
    → AddsNothing filled done → AddsNothing work emptied
nothing_added work filled done emptied fills empties nothing = record {
  text = ap (λ v. v.items) empties.1.0 ∙ nothing.text ∙ ap (λ v. v.items) fills.1.0;
  room = subst (λ v. vec_capacity work.text ≤ vec_capacity v) (sym empties.1.0)
      (subst (λ v. vec_capacity v ≤ vec_capacity done.text) fills.1.0 nothing.room);
  ops = ap (λ v. v.items) empties.1.1 ∙ nothing.ops ∙ ap (λ v. v.items) fills.1.1;
  size = empties.0;
}

-- A command that was performed with no byte left, whose work then has as many as before, is performed without room.
pub performs_full : EachTakesSome → (meant : Meant) (m t : MachineState) (work filled done emptied : Work) (r : Result (Unit {0}) Failure)
    → (filled.size ≡ max_request_bytes) × ((filled.text ≡ work.text) × (filled.ops ≡ work.ops))
    → (emptied.size ≡ work.size) × ((emptied.text ≡ done.text) × (emptied.ops ≡ done.ops))
    → Performs meant m t filled done r → Performs (without_room meant) m t work emptied (told_of r)
performs_full some meant m t work filled done emptied (Ok x) fills empties went =
    let added = went.ops in
    let fits = added.fits in
    let none = none_without_bytes some m.saved.profile went.meaning.ops (omega (arith, added.size, fits, fills.0)) in
    record {
      meaning = went.meaning;
      means = ap without_room went.means ∙ kept_without went.meaning went.meaning.ops none;
      stands = went.stands;
      text = ap (λ v. front_of v.items) empties.1.0 ∙ went.text ∙ ap (λ v. front_of (v.items ++ went.meaning.text)) fills.1.0;
      ops = record {
        ops = ap (λ v. v.items) empties.1.1 ∙ added.ops ∙ ap (λ v. v.items ++ went.meaning.ops) fills.1.1;
        size = omega (arith, empties.0, ap (λ (l : List Op). length (ops_bytes m.saved.profile l)) none);
        fits = omega (arith, empties.0, work.fits);
      };
      room = subst (λ v. vec_len v + command_room ≤ vec_capacity v) (sym empties.1.0) went.room;
      keeps = λ can. subst (λ v. vec_len v + 4 ≤ vec_capacity v) (sym empties.1.1)
          (went.keeps (subst (λ v. vec_len v + 4 ≤ vec_capacity v) (sym fills.1.1) can));
    }
performs_full some meant m t work filled done emptied (Err (Refused refusal)) fills empties failed = record {
  state = failed.state;
  nothing = nothing_added work filled done emptied fills empties failed.nothing;
  refusal = ap (within m.saved.profile work.size) (refused_full some m.saved.profile meant refusal
      (ap (λ (n : ℕ). within m.saved.profile n meant) (sym fills.0) ∙ failed.refusal));
}
performs_full some meant m t work filled done emptied (Err NoMemory) fills empties failed = record {
  state = failed.state;
  nothing = nothing_added work filled done emptied fills empties failed.nothing;
  refusal = tt;
}

-- ---- what is kept

pub keeping_wide : (m : MachineState) → lacks_room m ≡ false → m.saved.profile ≡ Wide → keeping m ≡ Wide
keeping_wide m room wide = ap (λ (b : Bool). cond b Named m.saved.profile) room ∙ wide

pub keeping_none : (m : MachineState) → lacks_room m ≡ true → keeping m ≡ Named
keeping_none m lacks = ap (λ (b : Bool). cond b Named m.saved.profile) lacks

-- without room nothing is kept behind a change
pub keeps_none : (m n : MachineState) → lacks_room m ≡ true → keep_ops m n ≡ []
keeps_none m n lacks =
    ap (λ (p : Profile). if_kept p (cond (goes_on m n) [] (place_ops m.player.current n.player n.saved n.saved.place)))
    (keeping_none m lacks)

pub at_saves_nothing : (ticket : ℕ) (m : MachineState) → lacks_room m ≡ true → SavesNothing m (when_kept ticket m)
at_saves_nothing ticket m lacks = of (counts m.player.state m.player.ticket ticket)
  where
    none : let h = keeps_place m in h.ops ≡ []
    none = ap (λ (p : Profile). if_kept p (place_ops m.player.current m.player m.saved m.saved.place)) (keeping_none m lacks)

    of : (b : Bool) → SavesNothing m (cond b (keeps_place m) (nothing_happens m))
    of true = record { ops = none; same = ap (λ (ops : List Op). after_all ops m.saved) none }
    of false = record { ops = refl; same = refl }

-- an event whose own ops are none, with nothing kept behind it
kept_nothing_saved : (m : MachineState) (h : Happening) → lacks_room m ≡ true → h.ops ≡ [] → h.after.saved ≡ m.saved
    → SavesNothing m (kept_event m h)
kept_nothing_saved m h lacks empty same = record {
  ops = (λ i. empty i ++ keeps_none m h.after lacks i);
  same = ap (λ (ops : List Op). after_all ops h.after.saved) (keeps_none m h.after lacks) ∙ same;
}

-- which step the player makes
pub full_step : (m : MachineState) (step : PlaySettings → Step) → lacks_room m ≡ true
    → stepping m step ≡ unsaved (step (without_consume (settings_of m.saved)))
full_step m step lacks =
    ap (λ (b : Bool). cond b (unsaved (step (without_consume (settings_of m.saved)))) (step (settings_of m.saved))) lacks

pub room_step : (m : MachineState) (step : PlaySettings → Step) → lacks_room m ≡ false → stepping m step ≡ step (settings_of m.saved)
room_step m step room =
    ap (λ (b : Bool). cond b (unsaved (step (without_consume (settings_of m.saved)))) (step (settings_of m.saved))) room

step_saves_nothing : (m : MachineState) (step : PlaySettings → Step) → lacks_room m ≡ true
    → SavesNothing m (kept_event m (happens (steps (stepping m step) m) m))
step_saves_nothing m step lacks =
    subst (λ (s : Step). SavesNothing m (kept_event m (happens (steps s m) m))) (sym (full_step m step lacks))
    (kept_nothing_saved m (happens (steps (unsaved (step (without_consume (settings_of m.saved)))) m) m) lacks refl refl)

pub ended_saves_nothing : (ticket : ℕ) (m : MachineState) → lacks_room m ≡ true → SavesNothing m (kept_event m (when_ended ticket m))
ended_saves_nothing ticket m = step_saves_nothing m (λ settings. ended m.saved.queue.entries settings m.player ticket)

pub broken_saves_nothing : (ticket : ℕ) (cause : BrokenCause) (m : MachineState) → lacks_room m ≡ true
    → SavesNothing m (kept_event m (when_broken ticket cause m))
broken_saves_nothing ticket cause m = step_saves_nothing m (λ settings. failed m.saved.queue.entries settings m.player ticket cause)

-- and what happens then, with nothing kept behind it
kept_no_more : (m : MachineState) (h : Happening) → lacks_room m ≡ true → h.ops ≡ [] → kept_event m h ≡ h
kept_no_more m h lacks empty = λ i. record h {
  ops = ((λ j. empty j ++ keeps_none m h.after lacks j) ∙ sym empty) i;
  after = with_ops (keeps_none m h.after lacks i) h.after;
}

pub full_happens : (m : MachineState) (step : PlaySettings → Step) → lacks_room m ≡ true
    → kept_event m (happens (steps (stepping m step) m) m)
    ≡ happens (steps (unsaved (step (without_consume (settings_of m.saved)))) m) m
full_happens m step lacks =
    ap (λ (s : Step). kept_event m (happens (steps s m) m)) (full_step m step lacks)
    ∙ kept_no_more m (happens (steps (unsaved (step (without_consume (settings_of m.saved)))) m) m) lacks refl

pub room_happens : (m : MachineState) (step : PlaySettings → Step) → lacks_room m ≡ false
    → kept_event m (happens (steps (stepping m step) m) m) ≡ kept_event m (happens (steps (step (settings_of m.saved)) m) m)
room_happens m step room = ap (λ (s : Step). kept_event m (happens (steps s m) m)) (room_step m step room)

-- what holds of an event's step holds of both
pub either_step : (R : Happening → Type 0) (m : MachineState) (step : PlaySettings → Step)
    → (lacks_room m ≡ true → R (kept_event m (happens (steps (stepping m step) m) m)))
    → (lacks_room m ≡ false → R (kept_event m (happens (steps (step (settings_of m.saved)) m) m)))
    → R (kept_event m (happens (steps (stepping m step) m) m))
either_step R m step full roomy = of (lacks_room m) refl
  where
    of : (b : Bool) → lacks_room m ≡ b → R (kept_event m (happens (steps (stepping m step) m) m))
    of true lacks = full lacks
    of false room = subst R (sym (room_happens m step room)) (roomy room)

pub found_saves_nothing : (job : ℕ) (changes : List RowChange) (m : MachineState) → lacks_room m ≡ true
    → SavesNothing m (kept_event m (when_found job changes m))
found_saves_nothing job changes m lacks =
    subst (λ (h : Happening). SavesNothing m (kept_event m h)) (sym (of (is_running job m)))
    (kept_nothing_saved m (nothing_happens m) lacks refl refl)
  where
    rows : Happening
    rows = finds (telling m.saved.songs (kept_changes m.saved.profile (spared m changes))) m

    of : (b : Bool) → cond b (if_room m rows) (nothing_happens m) ≡ nothing_happens m
    of true = ap (λ (b : Bool). cond b (nothing_happens m) rows) lacks
    of false = refl

-- a command
pub under_ok : (m : MachineState) (meant : Meant) (x : Meaning) → under_room m meant ≡ Ok x → meant ≡ Ok x
under_ok m meant x is = of (lacks_room m) meant is
  where
    says_so : Meaning → Meant
    says_so y = Ok y

    none : (y : Meaning) (ops : List Op) → saves_nothing y ops ≡ Ok x → says_so y ≡ says_so x
    none y [] same = same
    none y (op ∷ ops) same = absurd (cc)

    of : (b : Bool) (meant : Meant) → cond b (without_room meant) meant ≡ Ok x → meant ≡ Ok x
    of false meant same = same
    of true (Ok y) same = none y y.ops same
    of true (Err refusal) same = absurd (cc)

-- behind a command without an op nothing is kept without room
pub none_behind_it : (m : MachineState) (y : Meaning) → lacks_room m ≡ true → y.ops ≡ [] → (times m (keeps m y)).ops ≡ []
none_behind_it m y lacks empty =
    let place : (keeps m y).ops ≡ [] = λ i. empty i ++ keeps_none m y.after lacks i in
    let time : if_kept (keeping m) (time_ops (keeps m y).ops (keeps m y).after) ≡ [] =
    ap (λ (p : Profile). if_kept p (time_ops (keeps m y).ops (keeps m y).after)) (keeping_none m lacks) in
    λ i. place i ++ time i

-- so it makes no op
pub command_makes_none : (m : MachineState) (meant : Meant) (x : Meaning) → lacks_room m ≡ true → kept m (under_room m meant) ≡ Ok x
    → x.ops ≡ []
command_makes_none m meant x lacks is = of meant (ap (λ (b : Bool). kept m (cond b (without_room meant) meant)) (sym lacks) ∙ is)
  where
    ops_of : Meant → List Op
    ops_of (Ok y) = y.ops
    ops_of (Err refusal) = []

    none : (y : Meaning) (ops : List Op) → y.ops ≡ ops → kept m (saves_nothing y ops) ≡ Ok x → x.ops ≡ []
    none y [] empty same = sym (ap ops_of same) ∙ none_behind_it m y lacks empty
    none y (op ∷ ops) made same = absurd (cc)

    of : (meant : Meant) → kept m (without_room meant) ≡ Ok x → x.ops ≡ []
    of (Ok y) same = none y y.ops refl same
    of (Err refusal) same = absurd (cc)

pub kept_under : (m : MachineState) (meant : Meant) (x : Meaning) → kept m (under_room m meant) ≡ Ok x → kept m meant ≡ Ok x
kept_under m meant x is = of (lacks_room m) meant is
  where
    none : (y : Meaning) (ops : List Op) → kept m (saves_nothing y ops) ≡ Ok x → kept m (Ok y) ≡ Ok x
    none y [] same = same
    none y (op ∷ ops) same = absurd (cc)

    of : (b : Bool) (meant : Meant) → kept m (cond b (without_room meant) meant) ≡ Ok x → kept m meant ≡ Ok x
    of false meant same = same
    of true (Ok y) same = none y y.ops same
    of true (Err refusal) same = absurd (cc)
