-- Each command and each event keeps a machine of the wide profile in step with its place.
use Rattle.std.proofs.Common.{◌≡◌, ℕ, suc, ◌≤◌, Bool, true, false, cond, not, ap, is_some, ◌==◌, ◌&&◌, List, [], ◌∷◌, ◌++◌, length}
use Rattle.std.proofs.Common.{Option, Some, None, Ok, inl, refl, subst, sym, ◌∙◌, arith}
use Rattle.std.proofs.lemmas.Bool.{and_parts, eqb-true, false≢true}
use Rattle.std.specs.Option.{ok_or, option_map}
use Rattle.std.specs.Result.{result_ok}
use Rattle.command_text.specs.declared.command.Command.{Command}
use Rattle.command_text.specs.declared.tag_mask.TagMask.{TagMask}
use Rattle.player_core.specs.Place.{PlaceState, longest_round, place_left}
use Rattle.player_core.specs.Player.{PlayerState}
use Rattle.player_core.specs.Reports.{counts, only, turned}
use Rattle.player_core.specs.declared.playing.PlayState.{PlayState}
use Rattle.player_core.specs.declared.playing.PlayState.TheVariants.{Pause, Play, Stop}
use Rattle.profile.specs.declared.profile.Profile.{Profile}
use Rattle.player_core.specs.declared.failure.BrokenCause.{BrokenCause}
use Rattle.song_db.specs.Scan.{drops_of}
use Rattle.song_db.specs.declared.change.RowChange.{RowChange}
use Rattle.state_codec.specs.Applied.{after, after_all, applied_from, refusal_of, unless_refused}
use Rattle.state_codec.specs.OpsPlace.{place_after}
use Rattle.state_codec.specs.OpsQueue.{after_queue, range}
use Rattle.state_codec.specs.OpsRows.{no_range}
use Rattle.state_codec.specs.Steps.{◌>>=◌}
use Rattle.state_codec.specs.declared.op.queue_op.QueueOp.{QueueOp}
use Rattle.state_codec.specs.declared.op.queue_op.QueueOp.TheVariants as queue
use Rattle.state_codec.specs.declared.refusal.OpRefusal.{OpRefusal}
use Rattle.state_codec.specs.SavedState.{SavedState}
use Rattle.state_codec.specs.declared.op.Op.{Op}
use Rattle.state_codec.specs.declared.op.Op.TheVariants.{SetOption, SetVolume, SetOrder, Queue, List as Lists, Sticker, Batch, Place, Timed}
use Rattle.machine_core.specs.Command.{meaning}
use Rattle.machine_core.specs.Followed.{followed}
use Rattle.machine_core.specs.Happening.{Happening, nothing_happens}
use Rattle.machine_core.specs.Keeping.{if_kept, keep_ops, keeps, keeps_place, kept, kept_event, place_ops, resumes, when_kept}
use Rattle.machine_core.specs.Keeping.{when_resumed, with_ops}
use Rattle.machine_core.specs.Meaning.{Meaning, order_ops}
use Rattle.machine_core.specs.Reports.{when_broken, when_ended, when_fed}
use Rattle.machine_core.specs.Restart.{HasSoundPlace, IsIdle, IsInStep, IsKeptMachine, IsSoundPlace}
use Rattle.machine_core.specs.Scanning.{ends_scan, finds, is_running, kept_changes, telling, when_found, when_scanned, spared}
use Rattle.machine_core.specs.Sound.{IsSoundMachine}
use Rattle.machine_core.specs.State.{MachineState, told_room, told_time}
use Rattle.machine_core.specs.declared.clock.ClockTime.{ClockTime}
use Rattle.machine_core.specs.Happening.{if_room}
use Rattle.machine_core.specs.Room.{caught, is_empty, is_idle, is_stopped, room_back, under_room, when_room}
use Rattle.machine_core.specs.State.{lacks_room, lacks_under}
use Rattle.machine_core.proofs.FullLaws.{at_saves_nothing, broken_saves_nothing, command_makes_none, ended_saves_nothing, found_saves_nothing}
use Rattle.machine_core.proofs.FullLaws.{kept_under, keeping_wide}
use Rattle.machine_core.proofs.FullSteps.{caught_keeps}
use Rattle.machine_core.proofs.CommandLaws.{command_lawful}
use Rattle.machine_core.proofs.FormLaws.{IsLawful, Lawful}
use Rattle.machine_core.proofs.KeepingLaws.{at_holds}
use Rattle.machine_core.proofs.KeptLaws.{command_rebuilt, command_same, kept_is}
use Rattle.machine_core.proofs.Rounds.Again.{resumed_in_step}
use Rattle.machine_core.proofs.Rounds.InStep.{broken_in_step, clocked_in_step, command_in_step, ended_in_step, fed_in_step, found_in_step}
use Rattle.machine_core.proofs.Rounds.Following.{RoundStep}
use Rattle.machine_core.proofs.Rounds.InStep.{kept_in_step, same_player, scanned_in_step}
use Rattle.machine_core.proofs.Rounds.Kept.{as_few, at_the_player, few_played, place_comes}
use Rattle.machine_core.proofs.Sizes.{profile_after, profile_stays}
use Rattle.machine_core.proofs.Sound.Forms.{turned_sound}
use Rattle.machine_core.proofs.Sound.Kept.{when_fed_holds, when_scanned_holds}
use Rattle.machine_core.proofs.Sound.Resumed.{kept_broken_holds, kept_command_holds, kept_ended_holds, kept_found_holds, when_kept_holds}
use Rattle.machine_core.proofs.Sound.Resumed.{when_resumed_holds, when_room_holds}

-- ---- the profile stays, and so does a place, behind any ops

mapped : (f : PlaceState → PlaceState) (place : Option PlaceState) → is_some (option_map f place) ≡ is_some place
mapped f None = refl
mapped f (Some place) = refl

queue_place : (op : QueueOp) (s : SavedState) → is_some (after_queue op s).place ≡ is_some s.place
queue_place (queue.Add at rows) s = refl
queue_place (queue.Delete start end) s = mapped (place_left (range start end) [] s.queue.entries) s.place
queue_place (queue.Move start end to) s = refl
queue_place (queue.Swap one other) s = refl
queue_place (queue.Shuffle start end) s = refl
queue_place (queue.Prio priority ranges) s = refl

op_place : (op : Op) (s : SavedState) → is_some (after op s).place ≡ is_some s.place
op_place (SetOption setting) s = refl
op_place (SetVolume volume) s = refl
op_place (SetOrder order) s = refl
op_place (Queue op) s = queue_place op s
op_place (Lists op) s = refl
op_place (Sticker op) s = refl
op_place (Batch changes) s = mapped (place_left no_range (drops_of changes) s.queue.entries) s.place
op_place (Place op) s = mapped (place_after op) s.place
op_place (Timed seconds) s = refl

abbrev StaysSo : SavedState → SavedState → Type 0
StaysSo s t = (t.profile ≡ s.profile) × (is_some t.place ≡ is_some s.place)

all_stay : (ops : List Op) (s : SavedState) → StaysSo s (after_all ops s)
all_stay [] s = (refl, refl)
all_stay (op ∷ ops) s =
    let rest = all_stay ops (after op s) in (rest.0 ∙ profile_after op s, rest.1 ∙ op_place op s)

first_has : (i : ℕ) (op : Op) (ops : List Op) (s t : SavedState) (o : Option OpRefusal)
    → ((u : SavedState) → result_ok (applied_from (suc i) ops u) ≡ Some t → is_some t.place ≡ is_some u.place)
    → result_ok (ok_or (unless_refused o (after op s)) i >>= λ u. applied_from (suc i) ops u) ≡ Some t → is_some t.place ≡ is_some s.place
first_has i op ops s t None rest done = rest (after op s) done ∙ op_place op s
first_has i op ops s t (Some refusal) rest done = absurd (cc)

has_from : (i : ℕ) (ops : List Op) (s t : SavedState) → result_ok (applied_from i ops s) ≡ Some t → is_some t.place ≡ is_some s.place
has_from i [] s t done = let same : s ≡ t = cc in sym (ap (λ (u : SavedState). is_some u.place) same)
has_from i (op ∷ ops) s t done = first_has i op ops s t (refusal_of op s) (λ u later. has_from (suc i) ops u t later) done

-- behind an event, with what is kept behind it
kept_stay : (m n : MachineState) → StaysSo m.saved n.saved → StaysSo m.saved (after_all (keep_ops m n) n.saved)
kept_stay m n same = let rest = all_stay (keep_ops m n) n.saved in (rest.0 ∙ same.0, rest.1 ∙ same.1)

found_stay : (changes : List RowChange) (m : MachineState) → let h = finds changes m in StaysSo m.saved h.after.saved
found_stay [] m = (refl, refl)
found_stay (change ∷ changes) m =
    all_stay (order_ops (let next = followed (Batch (change ∷ changes)) m in next.order) ++ Batch (change ∷ changes) ∷ []) m.saved

when_found_stay : (job : ℕ) (changes : List RowChange) (m : MachineState)
    → let h = when_found job changes m in StaysSo m.saved h.after.saved
when_found_stay job changes m = of (is_running job m)
  where
    rows : Happening
    rows = finds (telling m.saved.songs (kept_changes m.saved.profile (spared m changes))) m

    in_room : (b : Bool) → let h = cond b (nothing_happens m) rows in StaysSo m.saved h.after.saved
    in_room true = (refl, refl)
    in_room false = found_stay (telling m.saved.songs (kept_changes m.saved.profile (spared m changes))) m

    of : (b : Bool) → let h = cond b (if_room m rows) (nothing_happens m) in StaysSo m.saved h.after.saved
    of true = in_room (lacks_room m)
    of false = (refl, refl)

when_scanned_stay : (job : ℕ) (m : MachineState) → let h = when_scanned job m in StaysSo m.saved h.after.saved
when_scanned_stay job m = of (is_running job m)
  where
    of : (b : Bool) → let h = cond b (ends_scan m) (nothing_happens m) in StaysSo m.saved h.after.saved
    of true = (refl, refl)
    of false = (refl, refl)

when_kept_stay : (ticket : ℕ) (m : MachineState) → let h = when_kept ticket m in StaysSo m.saved h.after.saved
when_kept_stay ticket m = of (counts m.player.state m.player.ticket ticket)
  where
    of : (b : Bool) → let h = cond b (keeps_place m) (nothing_happens m) in StaysSo m.saved h.after.saved
    of true = all_stay (let h = keeps_place m in h.ops) m.saved
    of false = (refl, refl)

resumes_stay : (plays : Bool) (m : MachineState) (place : Option PlaceState)
    → let h = resumes plays m place in StaysSo m.saved h.after.saved
resumes_stay plays m None = (refl, refl)
resumes_stay plays m (Some place) = (refl, refl)

when_resumed_stay : (plays : Bool) (m : MachineState) → let h = when_resumed plays m in StaysSo m.saved h.after.saved
when_resumed_stay plays m = of (m.player.ticket == 0)
  where
    of : (b : Bool) → let h = cond b (resumes plays m m.saved.place) (nothing_happens m) in StaysSo m.saved h.after.saved
    of true = resumes_stay plays m m.saved.place
    of false = (refl, refl)

-- ---- so each keeps it

same_lacks : (m n : MachineState) → n.saved.profile ≡ m.saved.profile → n.has_room ≡ m.has_room → lacks_room n ≡ lacks_room m
same_lacks m n profile room = λ i. lacks_under (profile i) (room i)

-- what else a change leaves of it: whether there is room
pub command_room_stays : (mask : TagMask) (command : Command) (m : MachineState) (x : Meaning) → kept m (meaning mask command m) ≡ Ok x
    → x.after.has_room ≡ m.has_room
command_room_stays mask command m x means =
    let y = kept_is m (meaning mask command m) x means in
    let lawful : IsLawful m y.0 = subst (Lawful m) y.1 (command_lawful mask command m) in
    subst (λ (z : Meaning). z.after.has_room ≡ m.has_room) y.2 lawful.room

pub when_found_room : (job : ℕ) (changes : List RowChange) (m : MachineState) → let h = kept_event m (when_found job changes m) in
    h.after.has_room ≡ m.has_room
when_found_room job changes m = of (is_running job m)
  where
    told : List RowChange
    told = telling m.saved.songs (kept_changes m.saved.profile (spared m changes))

    rows_room : (told : List RowChange) → let h = finds told m in h.after.has_room ≡ m.has_room
    rows_room [] = refl
    rows_room (change ∷ told) = refl

    in_room : (b : Bool) → let h = cond b (nothing_happens m) (finds told m) in h.after.has_room ≡ m.has_room
    in_room true = refl
    in_room false = rows_room told

    of : (b : Bool) → let h = cond b (if_room m (finds told m)) (nothing_happens m) in h.after.has_room ≡ m.has_room
    of true = in_room (lacks_room m)
    of false = refl

pub when_scanned_room : (job : ℕ) (m : MachineState) → let h = when_scanned job m in h.after.has_room ≡ m.has_room
when_scanned_room job m = of (is_running job m)
  where
    of : (b : Bool) → let h = cond b (ends_scan m) (nothing_happens m) in h.after.has_room ≡ m.has_room
    of true = refl
    of false = refl

pub when_scanned_same : (job : ℕ) (m : MachineState) → let h = when_scanned job m in h.after.saved ≡ m.saved
when_scanned_same job m = of (is_running job m)
  where
    of : (b : Bool) → let h = cond b (ends_scan m) (nothing_happens m) in h.after.saved ≡ m.saved
    of true = refl
    of false = refl

pub when_kept_room : (ticket : ℕ) (m : MachineState) → let h = when_kept ticket m in h.after.has_room ≡ m.has_room
when_kept_room ticket m = of (counts m.player.state m.player.ticket ticket)
  where
    of : (b : Bool) → let h = cond b (keeps_place m) (nothing_happens m) in h.after.has_room ≡ m.has_room
    of true = refl
    of false = refl

resumes_room : (plays : Bool) (m : MachineState) (place : Option PlaceState)
    → let h = resumes plays m place in (h.after.has_room ≡ m.has_room) × (h.after.saved ≡ m.saved)
resumes_room plays m None = (refl, refl)
resumes_room plays m (Some place) = (refl, refl)

when_resumed_both : (plays : Bool) (m : MachineState)
    → let h = when_resumed plays m in (h.after.has_room ≡ m.has_room) × (h.after.saved ≡ m.saved)
when_resumed_both plays m = of (m.player.ticket == 0)
  where
    of : (b : Bool) → let h = cond b (resumes plays m m.saved.place) (nothing_happens m) in
        (h.after.has_room ≡ m.has_room) × (h.after.saved ≡ m.saved)
    of true = resumes_room plays m m.saved.place
    of false = (refl, refl)

pub when_resumed_room : (plays : Bool) (m : MachineState) → let h = when_resumed plays m in h.after.has_room ≡ m.has_room
when_resumed_room plays m = (when_resumed_both plays m).0

pub when_resumed_same : (plays : Bool) (m : MachineState) → let h = when_resumed plays m in h.after.saved ≡ m.saved
when_resumed_same plays m = (when_resumed_both plays m).1

-- What is kept of the place by what is done with room or without: with it the place is in step behind, without it the saved half stays.
record KeepsStep (n : MachineState) : Type 0 where
  pub sound : HasSoundPlace n.saved
  pub step : lacks_room n ≡ false → IsInStep n

by_room : (m n : MachineState) → IsKeptMachine m → lacks_room n ≡ lacks_room m → (lacks_room m ≡ false → IsInStep n)
    → (lacks_room m ≡ true → n.saved ≡ m.saved) → KeepsStep n
by_room m n is same with_room without = record { sound = of (lacks_room m) refl; step = λ room. with_room (sym same ∙ room) }
  where
    of : (b : Bool) → lacks_room m ≡ b → HasSoundPlace n.saved
    of false room = λ place there. (with_room room place there).sound
    of true lacks = subst HasSoundPlace (sym (without lacks)) is.sound

pub command_kept : (mask : TagMask) (command : Command) (m : MachineState) (x : Meaning) → IsKeptMachine m
    → kept m (under_room m (meaning mask command m)) ≡ Ok x → IsKeptMachine x.after
command_kept mask command m x is under =
    let means = kept_under m (meaning mask command m) x under in
    let profile = profile_stays x.ops m.saved x.after.saved (command_rebuilt mask command m x means) in
    let keeps = by_room m x.after is (same_lacks m x.after profile (command_room_stays mask command m x means))
    (λ room. command_in_step mask command m x (keeping_wide m room is.wide) is.wide is.holds (is.step room) means)
    (λ lacks. command_same mask command m x means (command_makes_none m (meaning mask command m) x lacks under)) in
    record {
      wide = profile ∙ is.wide;
      has = has_from 0 x.ops m.saved x.after.saved (command_rebuilt mask command m x means) ∙ is.has;
      holds = kept_command_holds mask command m x is.holds means;
      sound = keeps.sound;
      step = keeps.step;
    }

pub fed_kept : (ticket frames : ℕ) (m : MachineState) → IsKeptMachine m → let h = when_fed ticket frames m in IsKeptMachine h.after
fed_kept ticket frames m is = record {
  wide = is.wide;
  has = is.has;
  holds = when_fed_holds ticket frames m is.holds;
  sound = is.sound;
  step = λ room. fed_in_step ticket frames m (is.step room);
}

pub ended_kept : (ticket : ℕ) (m : MachineState) → IsKeptMachine m → let h = kept_event m (when_ended ticket m) in IsKeptMachine h.after
ended_kept ticket m is =
    let h = when_ended ticket m in
    let stay = kept_stay m h.after (all_stay h.ops m.saved) in
    let k = kept_event m h in
    let keeps = by_room m k.after is (same_lacks m k.after stay.0 refl)
    (λ room. ended_in_step ticket m (keeping_wide m room is.wide) is.wide is.holds (is.step room))
    (λ lacks. (ended_saves_nothing ticket m lacks).same) in
    record {
      wide = stay.0 ∙ is.wide;
      has = stay.1 ∙ is.has;
      holds = kept_ended_holds ticket m is.holds;
      sound = keeps.sound;
      step = keeps.step;
    }

pub broken_kept : (ticket : ℕ) (cause : BrokenCause) (m : MachineState) → IsKeptMachine m
    → let h = kept_event m (when_broken ticket cause m) in IsKeptMachine h.after
broken_kept ticket cause m is =
    let h = when_broken ticket cause m in
    let stay = kept_stay m h.after (all_stay h.ops m.saved) in
    let k = kept_event m h in
    let keeps = by_room m k.after is (same_lacks m k.after stay.0 refl)
    (λ room. broken_in_step ticket cause m (keeping_wide m room is.wide) is.wide is.holds (is.step room))
    (λ lacks. (broken_saves_nothing ticket cause m lacks).same) in
    record {
      wide = stay.0 ∙ is.wide;
      has = stay.1 ∙ is.has;
      holds = kept_broken_holds ticket cause m is.holds;
      sound = keeps.sound;
      step = keeps.step;
    }

pub found_kept : (job : ℕ) (changes : List RowChange) (m : MachineState) → IsKeptMachine m
    → let h = kept_event m (when_found job changes m) in IsKeptMachine h.after
found_kept job changes m is =
    let h = when_found job changes m in
    let stay = kept_stay m h.after (when_found_stay job changes m) in
    let k = kept_event m h in
    let keeps = by_room m k.after is (same_lacks m k.after stay.0 (when_found_room job changes m))
    (λ room. found_in_step job changes m (keeping_wide m room is.wide) is.wide is.holds (is.step room))
    (λ lacks. (found_saves_nothing job changes m lacks).same) in
    record {
      wide = stay.0 ∙ is.wide;
      has = stay.1 ∙ is.has;
      holds = kept_found_holds job changes m is.holds;
      sound = keeps.sound;
      step = keeps.step;
    }

pub scanned_kept : (job : ℕ) (m : MachineState) → IsKeptMachine m → let h = when_scanned job m in IsKeptMachine h.after
scanned_kept job m is =
    let h = when_scanned job m in
    let keeps = by_room m h.after is (same_lacks m h.after (when_scanned_stay job m).0 (when_scanned_room job m))
    (λ room. scanned_in_step job m (is.step room)) (λ lacks. when_scanned_same job m) in
    record {
      wide = (when_scanned_stay job m).0 ∙ is.wide;
      has = (when_scanned_stay job m).1 ∙ is.has;
      holds = when_scanned_holds job m is.holds;
      sound = keeps.sound;
      step = keeps.step;
    }

pub clocked_kept : (time : ClockTime) (m : MachineState) → IsKeptMachine m → IsKeptMachine (told_time time m)
clocked_kept time m is = record {
  wide = is.wide;
  has = is.has;
  holds = record { queue = is.holds.queue; sound = is.holds.sound; frame = is.holds.frame };
  sound = is.sound;
  step = λ room. clocked_in_step time m (is.step room);
}

pub at_kept : (ticket : ℕ) (m : MachineState) → IsKeptMachine m → let h = when_kept ticket m in IsKeptMachine h.after
at_kept ticket m is =
    let h = when_kept ticket m in
    let keeps = by_room m h.after is (same_lacks m h.after (when_kept_stay ticket m).0 (when_kept_room ticket m))
    (λ room. kept_in_step ticket m (keeping_wide m room is.wide) is.wide is.holds (is.step room))
    (λ lacks. (at_saves_nothing ticket m lacks).same) in
    record {
      wide = (when_kept_stay ticket m).0 ∙ is.wide;
      has = (when_kept_stay ticket m).1 ∙ is.has;
      holds = when_kept_holds ticket m is.holds;
      sound = keeps.sound;
      step = keeps.step;
    }

pub resumed_kept : (plays : Bool) (m : MachineState) → IsKeptMachine m → let h = when_resumed plays m in IsKeptMachine h.after
resumed_kept plays m is =
    let h = when_resumed plays m in
    let keeps = by_room m h.after is (same_lacks m h.after (when_resumed_stay plays m).0 (when_resumed_room plays m))
    (λ room. resumed_in_step plays m (is.step room)) (λ lacks. when_resumed_same plays m) in
    record {
      wide = (when_resumed_stay plays m).0 ∙ is.wide;
      has = (when_resumed_stay plays m).1 ∙ is.has;
      holds = when_resumed_holds plays m is.holds;
      sound = keeps.sound;
      step = keeps.step;
    }

-- ---- it is told whether there is room

stopped_is : (state : PlayState) → is_stopped state ≡ true → state ≡ Stop
stopped_is Stop is = refl
stopped_is Play is = absurd (false≢true is)
stopped_is Pause is = absurd (false≢true is)

none_is : (current : Option ℕ) → not (is_some current) ≡ true → current ≡ None
none_is None is = refl
none_is (Some id) is = absurd (false≢true is)

empty_is : (ids : List ℕ) → is_empty ids ≡ true → ids ≡ []
empty_is [] is = refl
empty_is (id ∷ ids) is = absurd (false≢true is)

idle_is : (player : PlayerState) → is_idle player ≡ true → IsIdle player
idle_is player idle =
    let stop = and_parts (is_stopped player.state)
    (not (is_some player.current) && (player.ticket == 0 && is_empty player.played)) idle in
    let none = and_parts (not (is_some player.current)) (player.ticket == 0 && is_empty player.played) stop.1 in
    let rest = and_parts (player.ticket == 0) (is_empty player.played) none.1 in
    record {
      state = stopped_is player.state stop.0;
      current = none_is player.current none.0;
      ticket = eqb-true player.ticket 0 rest.0;
      played = empty_is player.played rest.1;
    }

idle_in_step : (m : MachineState) → is_idle m.player ≡ true → HasSoundPlace m.saved → IsInStep (told_room true m)
idle_in_step m idle sound place is = record { sound = sound place is; here = inl (idle_is m.player idle) }

-- a round that begins with the song that is current follows any
caught_round : (on : Bool) (kept : List ℕ) (player : PlayerState) → RoundStep player.current kept (turned on player).played
caught_round true kept player = of player.current
  where
    of : (current : Option ℕ) → RoundStep player.current kept (only current)
    of None = RoundStep.Empties refl
    of (Some id) = RoundStep.Opens id refl
caught_round false kept player = RoundStep.Empties refl

caught_holds : (m : MachineState) → IsSoundMachine m → IsSoundMachine (caught m)
caught_holds m holds = record {
  queue = holds.queue;
  sound = turned_sound m.saved.options.random m.saved.queue.entries m.saved.options.random m.player holds.sound;
  frame = holds.frame;
}

caught_in_step : (m : MachineState) → lacks_room m ≡ true → IsSoundMachine m → HasSoundPlace m.saved
    → let h = keeps_place (caught m) in IsInStep h.after
caught_in_step m lacks holds sound =
    subst (λ (p : Profile). IsInStep (with_ops (if_kept p (place_ops q.player.current q.player q.saved q.saved.place)) q))
    (sym (caught_keeps m lacks)) (of m.saved.place refl)
  where
    q : MachineState
    q = caught m

    of : (place : Option PlaceState) → m.saved.place ≡ place
        → IsInStep (with_ops (place_ops q.player.current q.player q.saved place) q)
    of None is = λ place there. absurd (cc (is, there))
    of (Some place) is =
        let kept : IsSoundPlace m.saved.queue.entries m.saved.options.random place = sound place is in
        let short : length place.played ≤ longest_round =
        omega (arith, as_few m.saved.queue.entries place.played kept.once kept.played, holds.queue.few) in
        let again : IsSoundMachine q = caught_holds m holds in
        subst (λ (s : SavedState). IsInStep (record q { saved = s }))
        (sym (place_comes q.player.current q place is short (caught_round m.saved.options.random place.played m.player) kept.once
        again.sound.once (few_played q again))) (at_the_player q again)

pub room_kept : (is_there : Bool) (m : MachineState) → IsKeptMachine m → let h = when_room is_there m in IsKeptMachine h.after
room_kept false m is = record {
  wide = is.wide;
  has = is.has;
  holds = when_room_holds false m is.holds;
  sound = is.sound;
  step = λ room. absurd (false≢true (sym room ∙ ap (λ (p : Profile). lacks_under p false) is.wide));
}
room_kept true m is = of (lacks_room m) refl
  where
    step : lacks_room m ≡ true → let h = keeps_place (caught m) in IsInStep h.after
    step lacks = caught_in_step m lacks is.holds is.sound

    told : MachineState
    told = told_room true m

    told_holds : IsSoundMachine told
    told_holds = record { queue = is.holds.queue; sound = is.holds.sound; frame = is.holds.frame }

    caught_by : lacks_room m ≡ true → (b : Bool) → is_idle m.player ≡ b
        → let h = cond b (nothing_happens told) (keeps_place (caught m)) in IsKeptMachine h.after
    caught_by lacks true idle = record {
      wide = is.wide;
      has = is.has;
      holds = told_holds;
      sound = is.sound;
      step = λ room. idle_in_step m idle is.sound;
    }
    caught_by lacks false begun =
        let stay = all_stay (let h = keeps_place (caught m) in h.ops) m.saved in
        record {
          wide = stay.0 ∙ is.wide;
          has = stay.1 ∙ is.has;
          holds = at_holds (caught m) (caught_holds m is.holds);
          sound = λ place there. (step lacks place there).sound;
          step = λ room. step lacks;
        }

    of : (b : Bool) → lacks_room m ≡ b → let h = room_back b m in IsKeptMachine h.after
    of true lacks = caught_by lacks (is_idle m.player) refl
    of false room = record {
      wide = is.wide;
      has = is.has;
      holds = told_holds;
      sound = is.sound;
      step = λ again. same_player m told refl refl (is.step room);
    }
