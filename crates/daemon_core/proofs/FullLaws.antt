-- Without room an event leaves what is saved as it is, but for the one that tells that there is room again.
use Rattle.std.proofs.Common.{◌≡◌, ℕ, suc, ◌+◌, ◌==◌, Bool, true, false, List, [], ◌∷◌, ◌++◌, Option, Some, None, cond, Ok}
use Rattle.std.proofs.Common.{refl, sym, ap, ◌∙◌}
use Rattle.std.proofs.lemmas.Bool.{false≢true}
use Rattle.command_text.specs.Answer.{list_ok}
use Rattle.command_text.specs.declared.command.Command.{Command}
use Rattle.command_text.specs.declared.place.Place.{Place}
use Rattle.command_text.specs.declared.place.Place.TheVariants.{Alone, InList}
use Rattle.command_text.specs.declared.request.Request.{Request}
use Rattle.command_text.specs.declared.request.Request.TheVariants.{Single, List as CommandList, OkList, Noidle}
use Rattle.command_text.specs.declared.tag_mask.TagMask.{TagMask}
use Rattle.idle_masks.specs.Watched.{watched}
use Rattle.idle_masks.specs.declared.subsystem.Subsystems.{Subsystems}
use Rattle.idle_masks.specs.declared.watch.Watched.{Watched}
use Rattle.machine_core.specs.Command.{meaning}
use Rattle.machine_core.specs.Happening.{Happening, nothing_happens}
use Rattle.machine_core.specs.Keeping.{keeps_place, kept, kept_event, resumes, when_kept, when_resumed}
use Rattle.machine_core.specs.Meaning.{Meaning}
use Rattle.machine_core.specs.Reports.{when_broken, when_ended}
use Rattle.machine_core.specs.Room.{SavesNothing, caught, is_idle, room_back, under_room, when_room}
use Rattle.machine_core.specs.Scanning.{ends_scan, is_running, when_found, when_scanned}
use Rattle.machine_core.specs.State.{MachineState, lacks_room, lacks_under, told_room}
use Rattle.machine_core.proofs.FullLaws.{kept_under}
use Rattle.machine_core.proofs.FullSteps.{lacks_wide}
use Rattle.machine_core.proofs.Missing.{missed_no_op, missed_room, missed_saved}
use Rattle.machine_core.proofs.Rounds.Machine.{command_room_stays, when_found_room, when_kept_room, when_resumed_room, when_resumed_same}
use Rattle.machine_core.proofs.Rounds.Machine.{when_scanned_room, when_scanned_same}
use Rattle.player_core.specs.Place.{PlaceState}
use Rattle.player_core.specs.declared.failure.BrokenCause.{BrokenCause}
use Rattle.profile.specs.declared.profile.Profile.{Profile}
use Rattle.song_db.specs.declared.change.RowChange.{RowChange}
use Rattle.state_codec.specs.SavedState.{SavedState}
use Rattle.state_codec.specs.declared.op.Op.{Op}
use Rattle.daemon_core.specs.Full.{brings_room}
use Rattle.daemon_core.specs.Run.{Asker, Did, Goes, Refuses, Ends, attempted}
use Rattle.daemon_core.specs.Run.{Ran, wants_memory, follow, is_refused_at, ran}
use Rattle.daemon_core.specs.Run.{Spent, spent_behind, spent_on}
use Rattle.daemon_core.specs.Session.{Acted, of_ran, runs}
use Rattle.daemon_core.specs.State.{State}
use Rattle.daemon_core.specs.Step.{asking, begun, connects_client, asked, waits_no_more, is_noidle, requested_by, waiting_of, acted, step}
use Rattle.daemon_core.specs.declared.event.Event.{Event}
use Rattle.daemon_core.specs.declared.event.Event.TheVariants as events
use Rattle.daemon_core.specs.declared.outcome.Ending.{Ending}
use Rattle.daemon_core.specs.declared.outcome.Ending.TheVariants.{Answered, Closed, Killed, Waits}
use Rattle.daemon_core.proofs.DoneLaws.{line_is}

-- no op, the same saved half, and still no room
pub record StaysFull (m n : MachineState) (made : List Op) : Type 0 where
  pub ops : made ≡ []
  pub saved : n.saved ≡ m.saved
  pub lacks : lacks_room n ≡ true

-- what is known of the machine's
pub record MachineFull : Type 0 where
  pub command : (mask : TagMask) (command : Command) (m : MachineState) (x : Meaning) → lacks_room m ≡ true
      → kept m (under_room m (meaning mask command m)) ≡ Ok x → (x.ops ≡ []) × (x.after.saved ≡ m.saved)
  pub ended : (ticket : ℕ) (m : MachineState) → lacks_room m ≡ true → SavesNothing m (kept_event m (when_ended ticket m))
  pub broken : (ticket : ℕ) (cause : BrokenCause) (m : MachineState) → lacks_room m ≡ true
      → SavesNothing m (kept_event m (when_broken ticket cause m))
  pub found : (job : ℕ) (changes : List RowChange) (m : MachineState) → lacks_room m ≡ true
      → SavesNothing m (kept_event m (when_found job changes m))
  pub kept_at : (ticket : ℕ) (m : MachineState) → lacks_room m ≡ true → SavesNothing m (when_kept ticket m)

-- the room is told by the profile and by what was told last
lacks_still : (m n : MachineState) → n.saved ≡ m.saved → n.has_room ≡ m.has_room → lacks_room m ≡ true → lacks_room n ≡ true
lacks_still m n saved room lacks = (λ i. lacks_under (ap (λ (s : SavedState). s.profile) saved i) (room i)) ∙ lacks

stays_so : (m : MachineState) (h : Happening) → lacks_room m ≡ true → SavesNothing m h → h.after.has_room ≡ m.has_room
    → StaysFull m h.after h.ops
stays_so m h lacks saves room =
    record { ops = saves.ops; saved = saves.same; lacks = lacks_still m h.after saves.same room lacks }

nothing_done : (m : MachineState) → lacks_room m ≡ true → StaysFull m m []
nothing_done m lacks = record { ops = refl; saved = refl; lacks = lacks }

-- ---- a request

abbrev DidFull : MachineState → Did → Type 0
DidFull m (Goes x) = lacks_room m ≡ true → StaysFull m x.after x.ops
DidFull m (Refuses refusal) = Unit {0}
DidFull m (Ends ending) = Unit {0}

line_full : (known : MachineFull) (c : Asker) (place : Place) (spent : Spent) (line : List ℕ) (m : MachineState)
    → DidFull m (attempted c place spent line m)
line_full known c place spent line m =
    line_is (DidFull m) c place spent line m (λ ending. tt) (λ refusal. tt) (λ command talk is lacks. nothing_done m lacks)
    (λ command x means fits lacks.
    let saves = known.command spent.view.tags command m x lacks means in
    record {
      ops = saves.0;
      saved = saves.1;
      lacks = lacks_still m x.after saves.1
          (command_room_stays spent.view.tags command m x (kept_under m (meaning spent.view.tags command m) x means)) lacks;
    })

abbrev RanFull : MachineState → Ran → Type 0
RanFull m r = lacks_room m ≡ true → StaysFull m r.after r.ops

follow_full : (separator : List ℕ) (index : ℕ) (behind : List Op → Spent) (m : MachineState) (rest : Spent → MachineState → Ran)
    (did : Did) → DidFull m did → ((n : Spent) (t : MachineState) → RanFull t (rest n t)) → RanFull m (follow separator index behind m rest did)
follow_full separator index behind m rest (Goes x) here later = λ lacks.
    let one : StaysFull m x.after x.ops = here lacks in
    let two = later (spent_on behind x) x.after one.lacks in
    record { ops = (λ i. one.ops i ++ two.ops i); saved = two.saved ∙ one.saved; lacks = two.lacks }
follow_full separator index behind m rest (Refuses refusal) here later = nothing_done m
follow_full separator index behind m rest (Ends ending) here later = nothing_done m

unless_refused_full : (spent : Spent) (m : MachineState) (index : ℕ) (line : List ℕ) (r : Ran) (here : Bool) → RanFull m r
    → RanFull m (cond here (wants_memory m spent index line) r)
unless_refused_full spent m index line r true full = nothing_done m
unless_refused_full spent m index line r false full = full

ran_full : (known : MachineFull) (c : Asker) (place : Place) (separator : List ℕ) (refused : Option ℕ) (index : ℕ) (spent : Spent)
    (lines : List (List ℕ)) (m : MachineState) → RanFull m (ran c place separator refused index spent lines m)
unfolding ran
ran_full known c place separator refused index spent [] m = nothing_done m
ran_full known c place separator refused index spent (line ∷ lines) m =
    unless_refused_full spent m index line _ (is_refused_at refused index)
    (follow_full separator index (spent_behind place line m spent) m (λ n t. ran c place separator refused (suc index) n lines t)
    (attempted c place spent line m) (line_full known c place spent line m)
    (λ n t. ran_full known c place separator refused (suc index) n lines t))

abbrev ActFull : State → Acted → Type 0
ActFull s a = lacks_room s.machine ≡ true → StaysFull s.machine a.after.machine a.ops

of_ran_full : (c : ℕ) (s : State) (r : Ran) (ending : Ending) → RanFull s.machine r → ActFull s (of_ran c s r ending)
of_ran_full c s r Answered full = full
of_ran_full c s r Closed full = full
of_ran_full c s r Killed full = full
of_ran_full c s r (Waits mask) full = full

runs_full : (c : ℕ) (s : State) (r : Ran) → RanFull s.machine r → ActFull s (runs c s r)
runs_full c s r full = of_ran_full c s r r.ending full

asked_full : (known : MachineFull) (c : ℕ) (refused : Option ℕ) (s : State) (request : Request) → ActFull s (asked c refused s request)
asked_full known c refused s (Single line) =
    runs_full c s (ran (asking c s) Alone [] refused 0 (begun c s) (line ∷ []) s.machine)
    (ran_full known (asking c s) Alone [] refused 0 (begun c s) (line ∷ []) s.machine)
asked_full known c refused s (CommandList lines) =
    runs_full c s (ran (asking c s) InList [] refused 0 (begun c s) lines s.machine)
    (ran_full known (asking c s) InList [] refused 0 (begun c s) lines s.machine)
asked_full known c refused s (OkList lines) =
    runs_full c s (ran (asking c s) InList list_ok refused 0 (begun c s) lines s.machine)
    (ran_full known (asking c s) InList list_ok refused 0 (begun c s) lines s.machine)
asked_full known c refused s Noidle = nothing_done s.machine

waiting_full : (noidle : Bool) (c : ℕ) (s : State) → ActFull s (waits_no_more noidle c s)
waiting_full true c s = nothing_done s.machine
waiting_full false c s = nothing_done s.machine

requested_full : (known : MachineFull) (c : ℕ) (refused : Option ℕ) (s : State) (request : Request) (found : Option (Option Subsystems))
    → ActFull s (requested_by c refused s request found)
requested_full known c refused s request None = nothing_done s.machine
requested_full known c refused s request (Some None) = asked_full known c refused s request
requested_full known c refused s request (Some (Some mask)) = waiting_full (is_noidle request) c s

-- ---- any event

connect_full : (c : ℕ) (s : State) (found : Option Watched) → ActFull s (connects_client c s found)
connect_full c s None = nothing_done s.machine
connect_full c s (Some w) = nothing_done s.machine

scanned_full : (job : ℕ) (m : MachineState) → lacks_room m ≡ true → let h = when_scanned job m in StaysFull m h.after h.ops
scanned_full job m lacks = record {
  ops = of (is_running job m);
  saved = when_scanned_same job m;
  lacks = lacks_still m (let h = when_scanned job m in h.after) (when_scanned_same job m) (when_scanned_room job m) lacks;
}
  where
    of : (b : Bool) → let h = cond b (ends_scan m) (nothing_happens m) in h.ops ≡ []
    of true = refl
    of false = refl

resumes_none : (plays : Bool) (m : MachineState) (place : Option PlaceState) → let h = resumes plays m place in h.ops ≡ []
resumes_none plays m None = refl
resumes_none plays m (Some place) = refl

resumed_full : (plays : Bool) (m : MachineState) → lacks_room m ≡ true → let h = when_resumed plays m in StaysFull m h.after h.ops
resumed_full plays m lacks = record {
  ops = of (m.player.ticket == 0);
  saved = when_resumed_same plays m;
  lacks = lacks_still m (let h = when_resumed plays m in h.after) (when_resumed_same plays m) (when_resumed_room plays m) lacks;
}
  where
    of : (b : Bool) → let h = cond b (resumes plays m m.saved.place) (nothing_happens m) in h.ops ≡ []
    of true = resumes_none plays m m.saved.place
    of false = refl

room_full : (is_there : Bool) (m : MachineState) → is_there ≡ false → lacks_room m ≡ true
    → let h = when_room is_there m in StaysFull m h.after h.ops
room_full true m brings lacks = absurd (false≢true (sym brings))
room_full false m brings lacks = record {
  ops = refl;
  saved = refl;
  lacks = ap (λ (p : Profile). lacks_under p false) (lacks_wide m.saved.profile m.has_room lacks);
}

acted_full : (known : MachineFull) (s : State) (event : Event) (refused : Option ℕ) → brings_room event ≡ false
    → ActFull s (acted s event refused)
acted_full known s (events.Connect c) refused brings = connect_full c s (watched s.clients c)
acted_full known s (events.Request c request) refused brings =
    requested_full known c refused s request (waiting_of (watched s.clients c))
acted_full known s (events.Gone c) refused brings = nothing_done s.machine
acted_full known s (events.Fed ticket frames) refused brings = λ lacks. record { ops = refl; saved = refl; lacks = lacks }
acted_full known s (events.Ended ticket) refused brings = λ lacks.
    stays_so s.machine (kept_event s.machine (when_ended ticket s.machine)) lacks (known.ended ticket s.machine lacks) refl
acted_full known s (events.Broken ticket cause) refused brings = λ lacks.
    stays_so s.machine (kept_event s.machine (when_broken ticket cause s.machine)) lacks (known.broken ticket cause s.machine lacks) refl
acted_full known s (events.Batch job changes) refused brings = λ lacks.
    stays_so s.machine (kept_event s.machine (when_found job changes s.machine)) lacks (known.found job changes s.machine lacks)
    (when_found_room job changes s.machine)
acted_full known s (events.Missing job songs) refused brings = λ lacks.
    record {
      ops = missed_no_op job songs s.machine;
      saved = missed_saved job songs s.machine;
      lacks = missed_room job songs s.machine ∙ lacks;
    }
acted_full known s (events.ScanDone job) refused brings = scanned_full job s.machine
acted_full known s (events.Clock time) refused brings = λ lacks. record { ops = refl; saved = refl; lacks = lacks }
acted_full known s (events.Keep ticket) refused brings = λ lacks.
    stays_so s.machine (when_kept ticket s.machine) lacks (known.kept_at ticket s.machine lacks) (when_kept_room ticket s.machine)
acted_full known s (events.Resume plays) refused brings = resumed_full plays s.machine
acted_full known s (events.Room is_there) refused brings = room_full is_there s.machine brings
acted_full known s (events.Picture c told) refused brings = nothing_done s.machine

pub stays_full : (known : MachineFull) (s : State) (event : Event) (refused : Option ℕ) → lacks_room s.machine ≡ true
    → brings_room event ≡ false → let r = step s event refused in StaysFull s.machine r.after.machine r.ops
unfolding step
stays_full known s event refused lacks brings = acted_full known s event refused brings lacks

-- ---- what is told

back_told : (b : Bool) (m : MachineState) → let h = room_back b m in h.after.has_room ≡ true
back_told false m = refl
back_told true m = of (is_idle m.player)
  where
    of : (b : Bool) → let h = cond b (nothing_happens (told_room true m)) (keeps_place (caught m)) in h.after.has_room ≡ true
    of true = refl
    of false = refl

room_told : (is_there : Bool) (m : MachineState) → let h = when_room is_there m in h.after.has_room ≡ is_there
room_told false m = refl
room_told true m = back_told (lacks_room m) m

pub told_so : (s : State) (is_there : Bool) (refused : Option ℕ)
    → (step s (events.Room is_there) refused).after.machine.has_room ≡ is_there
unfolding step
told_so s is_there refused = room_told is_there s.machine
