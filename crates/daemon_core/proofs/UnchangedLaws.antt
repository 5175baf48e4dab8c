-- An event makes no op exactly where it changes nothing of what is saved, since a command, the end of a song and a batch do.
use Rattle.std.proofs.Common.{◌≡◌, ℕ, suc, ◌+◌, ◌↔◌, Bool, true, false, List, [], ◌∷◌, ◌++◌, ◌==◌, Option, Some, None, cond}
use Rattle.std.proofs.Common.{refl, sym, subst, ◌∙◌, ap}
use Rattle.std.specs.Prelude.{Ok}
use Rattle.std.proofs.lemmas.Bool.{false≢true}
use Rattle.command_text.specs.declared.tag_mask.TagMask.{TagMask}
use Rattle.command_text.specs.Answer.{list_ok}
use Rattle.command_text.specs.declared.command.Command.{Command}
use Rattle.command_text.specs.declared.place.Place.{Place}
use Rattle.command_text.specs.declared.place.Place.TheVariants.{Alone, InList}
use Rattle.command_text.specs.declared.request.Request.{Request}
use Rattle.command_text.specs.declared.request.Request.TheVariants.{Single, List as CommandList, OkList, Noidle}
use Rattle.idle_masks.specs.Watched.{watched}
use Rattle.idle_masks.specs.declared.subsystem.Subsystems.{Subsystems}
use Rattle.idle_masks.specs.declared.watch.Watched.{Watched}
use Rattle.machine_core.proofs.FullLaws.{kept_under}
use Rattle.machine_core.specs.Command.{meaning}
use Rattle.machine_core.specs.Happening.{Happening, nothing_happens}
use Rattle.machine_core.specs.Keeping.{kept, kept_event, resumes, when_kept, when_resumed}
use Rattle.machine_core.specs.Meaning.{Meaning}
use Rattle.machine_core.proofs.KeepingLaws.{kept_nothing}
use Rattle.player_core.specs.Place.{PlaceState}
use Rattle.player_core.specs.declared.failure.BrokenCause.{BrokenCause}
use Rattle.machine_core.specs.Missing.{is_withheld, misses, goes_ahead, when_missed, withholds}
use Rattle.machine_core.specs.Reports.{when_broken, when_ended}
use Rattle.machine_core.specs.Room.{when_room}
use Rattle.machine_core.specs.Scanning.{ends_scan, finds, is_running, kept_changes, telling, when_found, when_scanned, spared}
use Rattle.machine_core.specs.State.{lacks_room, MachineState}
use Rattle.song_db.specs.declared.change.RowChange.{RowChange}
use Rattle.state_codec.specs.SavedState.{IsSavedState}
use Rattle.state_codec.specs.declared.op.Op.{Op}
use Rattle.daemon_core.specs.Run.{Asker, Did, Done, Goes, Refuses, Ends, attempted}
use Rattle.daemon_core.specs.Run.{Ran, wants_memory, follow, is_refused_at, ran}
use Rattle.daemon_core.specs.Run.{Spent, spent_behind, spent_on}
use Rattle.daemon_core.specs.Session.{of_ran, runs}
use Rattle.daemon_core.specs.State.{State}
use Rattle.daemon_core.specs.Step.{asking, begun, connects_client, asked, waits_no_more, is_noidle, requested_by, waiting_of, acted, step}
use Rattle.daemon_core.specs.Unchanged.{CommandLeaves, CommandsLeave, RequestLeaves, AskedLeaves, LeavesSaved}
use Rattle.daemon_core.specs.declared.event.Event.{Event}
use Rattle.daemon_core.specs.declared.event.Event.TheVariants as events
use Rattle.daemon_core.proofs.DoneLaws.{line_is}
use Rattle.daemon_core.specs.declared.outcome.Ending.{Ending}
use Rattle.daemon_core.specs.declared.outcome.Ending.TheVariants.{Answered, Closed, Killed, Waits}

-- what is known of a command, of the end of a song, and of a batch
pub record MachineTells : Type 0 where
  pub none : (mask : TagMask) (command : Command) (m : MachineState) (x : Meaning) → IsSavedState m.saved
      → kept m (meaning mask command m) ≡ Ok x → x.after.saved ≡ m.saved → x.ops ≡ []
  pub same : (mask : TagMask) (command : Command) (m : MachineState) (x : Meaning)
      → kept m (meaning mask command m) ≡ Ok x → x.ops ≡ [] → x.after.saved ≡ m.saved
  pub ended_none : (ticket : ℕ) (m : MachineState) → IsSavedState m.saved
      → (kept_event m (when_ended ticket m)).after.saved ≡ m.saved → (kept_event m (when_ended ticket m)).ops ≡ []
  pub ended_same : (ticket : ℕ) (m : MachineState) → (kept_event m (when_ended ticket m)).ops ≡ []
      → (kept_event m (when_ended ticket m)).after.saved ≡ m.saved
  pub broken_none : (ticket : ℕ) (cause : BrokenCause) (m : MachineState) → IsSavedState m.saved
      → (kept_event m (when_broken ticket cause m)).after.saved ≡ m.saved → (kept_event m (when_broken ticket cause m)).ops ≡ []
  pub broken_same : (ticket : ℕ) (cause : BrokenCause) (m : MachineState)
      → (kept_event m (when_broken ticket cause m)).ops ≡ [] → (kept_event m (when_broken ticket cause m)).after.saved ≡ m.saved
  pub found : (job : ℕ) (changes : List RowChange) (m : MachineState) → is_running job m ≡ true → lacks_room m ≡ false
      → ((kept_event m (when_found job changes m)).ops ≡ [] ↔ telling m.saved.songs (kept_changes m.saved.profile (spared m changes)) ≡ [])
  pub kept_none : (ticket : ℕ) (m : MachineState) → IsSavedState m.saved
      → (when_kept ticket m).after.saved ≡ m.saved → (when_kept ticket m).ops ≡ []
  pub kept_same : (ticket : ℕ) (m : MachineState) → (when_kept ticket m).ops ≡ [] → (when_kept ticket m).after.saved ≡ m.saved
  pub told_none : (is_there : Bool) (m : MachineState) → IsSavedState m.saved
      → (when_room is_there m).after.saved ≡ m.saved → (when_room is_there m).ops ≡ []
  pub told_same : (is_there : Bool) (m : MachineState) → (when_room is_there m).ops ≡ [] → (when_room is_there m).after.saved ≡ m.saved

-- it makes no op exactly where it leaves what is saved
record Tells (Leaves : Type 0) (m : MachineState) (ops : List Op) : Type 0 where
  none : IsSavedState m.saved → Leaves → ops ≡ []
  same : ops ≡ [] → Leaves

abbrev CommandTells : MachineState → Done → Type 0
CommandTells m x = Tells (x.after.saved ≡ m.saved) m x.ops

abbrev DidTells : MachineState → Did → Type 0
DidTells m (Goes x) = CommandTells m x
DidTells m (Refuses refusal) = Unit {0}
DidTells m (Ends ending) = Unit {0}

-- nothing is done, and nothing was to be done
silent : (m : MachineState) → Tells (Unit {0}) m []
silent m = record { none = λ saved leaves. refl; same = λ empty. tt }

attempted_tells : (known : MachineTells) (c : Asker) (place : Place) (spent : Spent) (line : List ℕ) (m : MachineState) →
    DidTells m (attempted c place spent line m)
attempted_tells known c place spent line m =
    line_is (DidTells m) c place spent line m (λ ending. tt) (λ refusal. tt)
    (λ command talk is. record { none = λ saved leaves. refl; same = λ empty. refl })
    (λ command x means fits. record {
      none = λ saved leaves. known.none spent.view.tags command m x saved (kept_under m (meaning spent.view.tags command m) x means) leaves;
      same = λ empty. known.same spent.view.tags command m x (kept_under m (meaning spent.view.tags command m) x means) empty;
    })

-- so does what a request ran
nothing_in : (a b : List Op) → a ++ b ≡ [] → (a ≡ []) × (b ≡ [])
nothing_in [] b empty = (refl, empty)
nothing_in (op ∷ a) b empty = absurd (cc)

follow_tells : (separator : List ℕ) (index : ℕ) (behind : List Op → Spent) (m : MachineState) (rest : Spent → MachineState → Ran)
    (Rest : Spent → MachineState → Type 0) (d : Did) → DidTells m d →
    ((n : Spent) (t : MachineState) → let r = rest n t in Tells (Rest n t) t r.ops) →
    let r = follow separator index behind m rest d in Tells (CommandLeaves behind m Rest d) m r.ops
follow_tells separator index behind m rest Rest (Goes x) tells later =
    let r : Ran = rest (spent_on behind x) x.after in
    let l = later (spent_on behind x) x.after in
    record {
      none = λ saved leaves.
          ap (λ (ops : List Op). ops ++ r.ops) (tells.none saved leaves.0) ∙ l.none (subst IsSavedState (sym leaves.0) saved) leaves.1;
      same = λ empty. let parts = nothing_in x.ops r.ops empty in (tells.same parts.0, l.same parts.1);
    }
follow_tells separator index behind m rest Rest (Refuses refusal) tells later = silent m
follow_tells separator index behind m rest Rest (Ends ending) tells later = silent m

here_tells : (spent : Spent) (m : MachineState) (index : ℕ) (line : List ℕ) (r : Ran) (Leaves : Type 0) (here : Bool)
    → Tells Leaves m r.ops →
    let either = cond here (wants_memory m spent index line) r in Tells (here ≡ false → Leaves) m either.ops
here_tells spent m index line r Leaves true tells =
    record { none = λ saved leaves. refl; same = λ empty not. absurd (false≢true (sym not)) }
here_tells spent m index line r Leaves false tells =
    record { none = λ saved leaves. tells.none saved (leaves refl); same = λ empty not. tells.same empty }

ran_tells : (known : MachineTells) (c : Asker) (place : Place) (separator : List ℕ) (refused : Option ℕ) (index : ℕ) (spent : Spent)
    (lines : List (List ℕ)) (m : MachineState) →
    let r = ran c place separator refused index spent lines m in Tells (CommandsLeave c place refused index spent lines m) m r.ops
unfolding ran CommandsLeave
ran_tells known c place separator refused index spent [] m = silent m
ran_tells known c place separator refused index spent (line ∷ lines) m =
    here_tells spent m index line _ _ (is_refused_at refused index)
    (follow_tells separator index (spent_behind place line m spent) m (λ n t. ran c place separator refused (suc index) n lines t)
    (λ n t. CommandsLeave c place refused (suc index) n lines t) (attempted c place spent line m)
    (attempted_tells known c place spent line m)
    (λ n t. ran_tells known c place separator refused (suc index) n lines t))

-- so does any event
of_ran_tells : (c : ℕ) (s : State) (r : Ran) (ending : Ending) (Leaves : Type 0) → Tells Leaves s.machine r.ops →
    let a = of_ran c s r ending in Tells Leaves s.machine a.ops
of_ran_tells c s r Answered Leaves tells = tells
of_ran_tells c s r Closed Leaves tells = tells
of_ran_tells c s r Killed Leaves tells = tells
of_ran_tells c s r (Waits mask) Leaves tells = tells

runs_tells : (c : ℕ) (s : State) (r : Ran) (Leaves : Type 0) → Tells Leaves s.machine r.ops →
    let a = runs c s r in Tells Leaves s.machine a.ops
runs_tells c s r Leaves tells = of_ran_tells c s r r.ending Leaves tells

asked_tells : (known : MachineTells) (c : ℕ) (refused : Option ℕ) (s : State) (request : Request) →
    let a = asked c refused s request in Tells (RequestLeaves (asking c s) refused (begun c s) s.machine request)
    s.machine a.ops
asked_tells known c refused s (Single line) =
    runs_tells c s _ _ (ran_tells known (asking c s) Alone [] refused 0 (begun c s) (line ∷ []) s.machine)
asked_tells known c refused s (CommandList lines) =
    runs_tells c s _ _ (ran_tells known (asking c s) InList [] refused 0 (begun c s) lines s.machine)
asked_tells known c refused s (OkList lines) =
    runs_tells c s _ _ (ran_tells known (asking c s) InList list_ok refused 0 (begun c s) lines s.machine)
asked_tells known c refused s Noidle = silent s.machine

waiting_tells : (noidle : Bool) (c : ℕ) (s : State) → let a = waits_no_more noidle c s in Tells (Unit {0}) s.machine a.ops
waiting_tells true c s = silent s.machine
waiting_tells false c s = silent s.machine

requested_tells : (known : MachineTells) (c : ℕ) (refused : Option ℕ) (s : State) (request : Request)
    (found : Option (Option Subsystems)) →
    let a = requested_by c refused s request found in Tells (AskedLeaves (asking c s) refused (begun c s) s.machine request found) s.machine a.ops
requested_tells known c refused s request None = silent s.machine
requested_tells known c refused s request (Some None) = asked_tells known c refused s request
requested_tells known c refused s request (Some (Some mask)) = waiting_tells (is_noidle request) c s

connect_tells : (c : ℕ) (s : State) (found : Option Watched) →
    let a = connects_client c s found in Tells (Unit {0}) s.machine a.ops
connect_tells c s None = silent s.machine
connect_tells c s (Some w) = silent s.machine

found_tells : (known : MachineTells) (job : ℕ) (changes : List RowChange) (m : MachineState) →
    let h = kept_event m (when_found job changes m) in Tells (is_running job m ≡ true → lacks_room m ≡ false
    → telling m.saved.songs (kept_changes m.saved.profile (spared m changes))
    ≡ []) m h.ops
found_tells known job changes m = record {
  none = λ saved leaves. of (is_running job m) (lacks_room m) refl refl leaves;
  same = λ empty runs room. (known.found job changes m runs room).0 empty;
}
  where
    finding : Bool → Bool → Happening
    finding runs lacks = kept_event m (cond runs
        (cond lacks (nothing_happens m) (finds (telling m.saved.songs (kept_changes m.saved.profile (spared m changes))) m))
        (nothing_happens m))

    of : (b lacks : Bool) → is_running job m ≡ b → lacks_room m ≡ lacks
        → (is_running job m ≡ true → lacks_room m ≡ false → telling m.saved.songs (kept_changes m.saved.profile (spared m changes)) ≡ []) →
        let h = kept_event m (when_found job changes m) in h.ops ≡ []
    of true false runs room leaves = (known.found job changes m runs room).1 (leaves runs room)
    of true true runs room leaves =
        ap (λ (b : Bool). let h : Happening = finding b (lacks_room m) in h.ops) runs
        ∙ ap (λ (b : Bool). let h : Happening = finding true b in h.ops) room ∙ ap (λ (h : Happening). h.ops) (kept_nothing m)
    of false lacks runs room leaves =
        ap (λ (b : Bool). let h : Happening = finding b (lacks_room m) in h.ops) runs ∙ ap (λ (h : Happening). h.ops) (kept_nothing m)

scanned_tells : (job : ℕ) (m : MachineState) → let h = when_scanned job m in Tells (Unit {0}) m h.ops
scanned_tells job m = of (is_running job m)
  where
    of : (b : Bool) → let h : Happening = cond b (ends_scan m) (nothing_happens m) in Tells (Unit {0}) m h.ops
    of true = silent m
    of false = silent m

missed_tells : (job missing : ℕ) (m : MachineState) → let h = when_missed job missing m in Tells (Unit {0}) m h.ops
missed_tells job missing m = of (is_running job m)
  where
    by : (b : Bool) → let h : Happening = cond b (withholds missing m) (goes_ahead m) in Tells (Unit {0}) m h.ops
    by true = silent m
    by false = silent m

    of : (b : Bool) → let h : Happening = cond b (misses missing m) (nothing_happens m) in Tells (Unit {0}) m h.ops
    of true = by (is_withheld missing m)
    of false = silent m

resumed_tells : (plays : Bool) (m : MachineState) → let h = when_resumed plays m in Tells (Unit {0}) m h.ops
resumed_tells plays m = of (m.player.ticket == 0)
  where
    from : (place : Option PlaceState) → let h : Happening = resumes plays m place in Tells (Unit {0}) m h.ops
    from None = silent m
    from (Some place) = silent m

    of : (b : Bool) → let h : Happening = cond b (resumes plays m m.saved.place) (nothing_happens m) in Tells (Unit {0}) m h.ops
    of true = from m.saved.place
    of false = silent m

acted_tells : (known : MachineTells) (s : State) (event : Event) (refused : Option ℕ) →
    let a = acted s event refused in Tells (LeavesSaved s event refused) s.machine a.ops
acted_tells known s (events.Connect c) refused = connect_tells c s (watched s.clients c)
acted_tells known s (events.Request c request) refused =
    requested_tells known c refused s request (waiting_of (watched s.clients c))
acted_tells known s (events.Gone c) refused = silent s.machine
acted_tells known s (events.Fed ticket frames) refused = silent s.machine
acted_tells known s (events.Ended ticket) refused =
    record { none = known.ended_none ticket s.machine; same = known.ended_same ticket s.machine }
acted_tells known s (events.Broken ticket cause) refused =
    record { none = known.broken_none ticket cause s.machine; same = known.broken_same ticket cause s.machine }
acted_tells known s (events.Batch job changes) refused = found_tells known job changes s.machine
acted_tells known s (events.Missing job songs) refused = missed_tells job songs s.machine
acted_tells known s (events.ScanDone job) refused = scanned_tells job s.machine
acted_tells known s (events.Clock time) refused = silent s.machine
acted_tells known s (events.Keep ticket) refused =
    record { none = known.kept_none ticket s.machine; same = known.kept_same ticket s.machine }
acted_tells known s (events.Resume plays) refused = resumed_tells plays s.machine
acted_tells known s (events.Room is_there) refused =
    record { none = known.told_none is_there s.machine; same = known.told_same is_there s.machine }
acted_tells known s (events.Picture c told) refused = silent s.machine

pub no_op : (known : MachineTells) (s : State) (event : Event) (refused : Option ℕ) → IsSavedState s.machine.saved
    → LeavesSaved s event refused → (step s event refused).ops ≡ []
unfolding step
no_op known s event refused saved leaves = (acted_tells known s event refused).none saved leaves

pub nothing_changed : (known : MachineTells) (s : State) (event : Event) (refused : Option ℕ) → (step s event refused).ops ≡ []
    → LeavesSaved s event refused
unfolding step
nothing_changed known s event refused empty = (acted_tells known s event refused).same empty
