-- What holds of a machine that has just begun, and what each command and each event keeps, holds after any history.
use Rattle.std.proofs.Common.{◌≡◌, ℕ, suc, Bool, true, false, List, [], ◌∷◌, Option, Some, None, cond, Ok}
use Rattle.command_text.specs.declared.tag_mask.TagMask.{TagMask}
use Rattle.command_text.specs.Answer.{list_ok}
use Rattle.command_text.specs.declared.command.Command.{Command}
use Rattle.command_text.specs.declared.place.Place.{Place}
use Rattle.command_text.specs.declared.place.Place.TheVariants.{Alone, InList}
use Rattle.command_text.specs.declared.request.Request.{Request}
use Rattle.command_text.specs.declared.request.Request.TheVariants.{Single, List as CommandList, OkList, Noidle}
use Rattle.idle_masks.specs.Watched.{watched}
use Rattle.idle_masks.specs.declared.subsystem.Subsystems.{Subsystems}
use Rattle.idle_masks.specs.declared.watch.Watched.{Watched}
use Rattle.machine_core.specs.Command.{meaning}
use Rattle.machine_core.specs.Keeping.{kept, kept_event, when_kept, when_resumed}
use Rattle.machine_core.specs.Meaning.{Meaning}
use Rattle.machine_core.specs.Missing.{when_missed}
use Rattle.machine_core.specs.Reports.{when_broken, when_ended, when_fed}
use Rattle.machine_core.specs.Room.{under_room, when_room}
use Rattle.machine_core.specs.Scanning.{when_found, when_scanned}
use Rattle.machine_core.specs.State.{MachineState, started, told_time}
use Rattle.machine_core.specs.declared.clock.ClockTime.{ClockTime}
use Rattle.player_core.specs.declared.failure.BrokenCause.{BrokenCause}
use Rattle.song_db.specs.declared.change.RowChange.{RowChange}
use Rattle.state_codec.specs.SavedState.{SavedState}
use Rattle.state_codec.specs.declared.op.Op.{Op}
use Rattle.daemon_core.specs.Replay.{Entry, replay}
use Rattle.daemon_core.specs.Run.{Asker, Did, Goes, Refuses, Ends, attempted}
use Rattle.daemon_core.specs.Run.{Ran, wants_memory, follow, is_refused_at, ran}
use Rattle.daemon_core.specs.Run.{Spent, spent_behind, spent_on}
use Rattle.daemon_core.specs.Session.{Acted, of_ran, runs}
use Rattle.daemon_core.specs.State.{State}
use Rattle.daemon_core.specs.Step.{asking, begun, connects_client, asked, waits_no_more, is_noidle, requested_by, waiting_of, acted, step}
use Rattle.daemon_core.specs.declared.event.Event.{Event}
use Rattle.daemon_core.specs.declared.event.Event.TheVariants as events
use Rattle.daemon_core.proofs.DoneLaws.{line_is}
use Rattle.daemon_core.specs.declared.outcome.Ending.{Ending}
use Rattle.daemon_core.specs.declared.outcome.Ending.TheVariants.{Answered, Closed, Killed, Waits}

-- what each command, each report of the output, each event of a scan and each of a clock keeps
pub record IsKept (P : MachineState → Type 0) : Type 0 where
  pub command : (mask : TagMask) (command : Command) (m : MachineState) (x : Meaning) → P m
      → kept m (under_room m (meaning mask command m)) ≡ Ok x → P x.after
  pub fed : (ticket frames : ℕ) (m : MachineState) → P m → P (when_fed ticket frames m).after
  pub ended : (ticket : ℕ) (m : MachineState) → P m → P (kept_event m (when_ended ticket m)).after
  pub broken : (ticket : ℕ) (cause : BrokenCause) (m : MachineState) → P m → P (kept_event m (when_broken ticket cause m)).after
  pub found : (job : ℕ) (changes : List RowChange) (m : MachineState) → P m → P (kept_event m (when_found job changes m)).after
  pub missed : (job missing : ℕ) (m : MachineState) → P m → P (when_missed job missing m).after
  pub scanned : (job : ℕ) (m : MachineState) → P m → P (when_scanned job m).after
  pub clocked : (time : ClockTime) (m : MachineState) → P m → P (told_time time m)
  pub kept_at : (ticket : ℕ) (m : MachineState) → P m → P (when_kept ticket m).after
  pub resumed : (plays : Bool) (m : MachineState) → P m → P (when_resumed plays m).after
  pub told : (is_there : Bool) (m : MachineState) → P m → P (when_room is_there m).after

module _ (P : MachineState → Type 0) (always : IsKept P) where
  abbrev DidKeeps : MachineState → Did → Type 0
  DidKeeps m (Goes x) = P m → P x.after
  DidKeeps m (Refuses refusal) = Unit {0}
  DidKeeps m (Ends ending) = Unit {0}

  -- a line of a request
  line_lasts : (c : Asker) (place : Place) (spent : Spent) (line : List ℕ) (m : MachineState) → DidKeeps m (attempted c place spent line m)
  line_lasts c place spent line m =
      line_is (DidKeeps m) c place spent line m (λ ending. tt) (λ refusal. tt) (λ command talk is h. h)
      (λ command x means fits h. always.command spent.view.tags command m x h means)

  -- the commands of a request
  abbrev RanKeeps : MachineState → Ran → Type 0
  RanKeeps m r = P m → P r.after

  follow_lasts : (separator : List ℕ) (index : ℕ) (behind : List Op → Spent) (m : MachineState) (rest : Spent → MachineState → Ran)
      (did : Did) → DidKeeps m did →
      ((n : Spent) (t : MachineState) → RanKeeps t (rest n t)) → RanKeeps m (follow separator index behind m rest did)
  follow_lasts separator index behind m rest (Goes x) keeps later =
      λ h. later (spent_on behind x) x.after (keeps h)
  follow_lasts separator index behind m rest (Refuses refusal) keeps later = λ h. h
  follow_lasts separator index behind m rest (Ends ending) keeps later = λ h. h

  unless_refused_lasts : (spent : Spent) (m : MachineState) (index : ℕ) (line : List ℕ) (r : Ran) (here : Bool) → RanKeeps m r →
      RanKeeps m (cond here (wants_memory m spent index line) r)
  unless_refused_lasts spent m index line r true keeps = λ h. h
  unless_refused_lasts spent m index line r false keeps = keeps

  ran_lasts : (c : Asker) (place : Place) (separator : List ℕ) (refused : Option ℕ) (index : ℕ) (spent : Spent) (lines : List (List ℕ))
      (m : MachineState) →
      RanKeeps m (ran c place separator refused index spent lines m)
  unfolding ran
  ran_lasts c place separator refused index spent [] m = λ h. h
  ran_lasts c place separator refused index spent (line ∷ lines) m =
      unless_refused_lasts spent m index line _ (is_refused_at refused index)
      (follow_lasts separator index (spent_behind place line m spent) m (λ n t. ran c place separator refused (suc index) n lines t)
      (attempted c place spent line m) (line_lasts c place spent line m)
      (λ n t. ran_lasts c place separator refused (suc index) n lines t))

  -- the events
  abbrev ActKeeps : State → Acted → Type 0
  ActKeeps s a = P s.machine → P a.after.machine

  of_ran_lasts : (c : ℕ) (s : State) (r : Ran) (ending : Ending) → RanKeeps s.machine r → ActKeeps s (of_ran c s r ending)
  of_ran_lasts c s r Answered keeps = keeps
  of_ran_lasts c s r Closed keeps = keeps
  of_ran_lasts c s r Killed keeps = keeps
  of_ran_lasts c s r (Waits mask) keeps = keeps

  runs_lasts : (c : ℕ) (s : State) (r : Ran) → RanKeeps s.machine r → ActKeeps s (runs c s r)
  runs_lasts c s r keeps = of_ran_lasts c s r r.ending keeps

  asked_lasts : (c : ℕ) (refused : Option ℕ) (s : State) (request : Request) → ActKeeps s (asked c refused s request)
  asked_lasts c refused s (Single line) =
      runs_lasts c s (ran (asking c s) Alone [] refused 0 (begun c s) (line ∷ []) s.machine)
      (ran_lasts (asking c s) Alone [] refused 0 (begun c s) (line ∷ []) s.machine)
  asked_lasts c refused s (CommandList lines) =
      runs_lasts c s (ran (asking c s) InList [] refused 0 (begun c s) lines s.machine) (ran_lasts (asking c s) InList [] refused 0
      (begun c s) lines s.machine)
  asked_lasts c refused s (OkList lines) =
      runs_lasts c s (ran (asking c s) InList list_ok refused 0 (begun c s) lines s.machine)
      (ran_lasts (asking c s) InList list_ok refused 0 (begun c s) lines s.machine)
  asked_lasts c refused s Noidle = λ h. h

  waiting_lasts : (noidle : Bool) (c : ℕ) (s : State) → ActKeeps s (waits_no_more noidle c s)
  waiting_lasts true c s = λ h. h
  waiting_lasts false c s = λ h. h

  requested_lasts : (c : ℕ) (refused : Option ℕ) (s : State) (request : Request) (found : Option (Option Subsystems)) →
      ActKeeps s (requested_by c refused s request found)
  requested_lasts c refused s request None = λ h. h
  requested_lasts c refused s request (Some None) = asked_lasts c refused s request
  requested_lasts c refused s request (Some (Some mask)) = waiting_lasts (is_noidle request) c s

  connect_lasts : (c : ℕ) (s : State) (found : Option Watched) → ActKeeps s (connects_client c s found)
  connect_lasts c s None = λ h. h
  connect_lasts c s (Some w) = λ h. h

  acted_lasts : (s : State) (event : Event) (refused : Option ℕ) → ActKeeps s (acted s event refused)
  acted_lasts s (events.Connect c) refused = connect_lasts c s (watched s.clients c)
  acted_lasts s (events.Request c request) refused = requested_lasts c refused s request (waiting_of (watched s.clients c))
  acted_lasts s (events.Gone c) refused = λ h. h
  acted_lasts s (events.Fed ticket frames) refused = always.fed ticket frames s.machine
  acted_lasts s (events.Ended ticket) refused = always.ended ticket s.machine
  acted_lasts s (events.Broken ticket cause) refused = always.broken ticket cause s.machine
  acted_lasts s (events.Batch job changes) refused = always.found job changes s.machine
  acted_lasts s (events.Missing job songs) refused = always.missed job songs s.machine
  acted_lasts s (events.ScanDone job) refused = always.scanned job s.machine
  acted_lasts s (events.Clock time) refused = always.clocked time s.machine
  acted_lasts s (events.Keep ticket) refused = always.kept_at ticket s.machine
  acted_lasts s (events.Resume plays) refused = always.resumed plays s.machine
  acted_lasts s (events.Room is_there) refused = always.told is_there s.machine
  acted_lasts s (events.Picture c told) refused = λ h. h

  pub lasts : (saved : SavedState) → P (started saved) → (history : List Entry) → P (replay saved history).machine
  unfolding replay step
  lasts saved begins [] = begins
  lasts saved begins (entry ∷ earlier) = acted_lasts (replay saved earlier) entry.event entry.refused (lasts saved begins earlier)
