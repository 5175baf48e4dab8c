-- A request that ends the daemon comes to `kill`.
use Rattle.std.proofs.Common.{◌≡◌, ℕ, suc, Bool, true, false, not, ◌||◌, ◌&&◌, List, [], ◌∷◌, Option, Some, None, cond}
use Rattle.std.proofs.Common.{refl, sym, ◌∙◌, ap, Result, Ok, Err}
use Rattle.std.proofs.lemmas.Bool.{false≢true}
use Rattle.std.proofs.Math.Bool.{or-false}
use Rattle.command_text.specs.Answer.{list_ok}
use Rattle.command_text.specs.Reading.{line_reading}
use Rattle.command_text.specs.declared.command.Command.{Command}
use Rattle.command_text.specs.declared.command.Command.TheVariants as commands
use Rattle.command_text.specs.declared.command.NamedCommand.{NamedCommand}
use Rattle.command_text.specs.declared.command.session.SessionCommand.{SessionCommand}
use Rattle.command_text.specs.declared.command.session.SessionCommand.TheVariants as session
use Rattle.command_text.specs.declared.command.settings.SettingsCommand.{SettingsCommand}
use Rattle.command_text.specs.declared.command.settings.SettingsCommand.TheVariants as settings
use Rattle.command_text.specs.declared.name.CommandName.{CommandName}
use Rattle.command_text.specs.declared.place.Place.{Place}
use Rattle.command_text.specs.declared.place.Place.TheVariants.{Alone, InList}
use Rattle.command_text.specs.declared.refusal.CommandRefusal.{CommandRefusal}
use Rattle.command_text.specs.declared.refusal.Refusal.{Refusal}
use Rattle.command_text.specs.declared.request.Request.{Request}
use Rattle.command_text.specs.declared.request.Request.TheVariants.{Single, List as CommandList, OkList, Noidle}
use Rattle.idle_masks.specs.Watched.{watched, after_reports}
use Rattle.idle_masks.specs.declared.subsystem.Subsystems.{Subsystems}
use Rattle.idle_masks.specs.declared.watch.Watched.{Watched}
use Rattle.machine_core.specs.State.{MachineState}
use Rattle.state_codec.specs.declared.op.Op.{Op}
use Rattle.daemon_core.specs.Kill.{kills, is_kill, reads_kill, goes_on, comes_to_kill, request_kills, asks_to_kill, ends_daemon}
use Rattle.daemon_core.specs.Pending.{with_news}
use Rattle.daemon_core.specs.Run.{Asker, Did, Done, Goes, Refuses, Ends, settings_ending, session_ending, ending_of, did_of, unless_it_ends}
use Rattle.daemon_core.specs.Run.{done_by, performed, read_and_performed, attempted, Ran, wants_memory, follow, is_refused_at, ran}
use Rattle.daemon_core.specs.Run.{Spent, spent_behind, spent_on}
use Rattle.daemon_core.specs.Session.{Acted, of_ran, runs}
use Rattle.daemon_core.specs.State.{State}
use Rattle.daemon_core.specs.Step.{asking, begun, connects_client, asked, waits_no_more, is_noidle, requested_by, waiting_of, acted, step}
use Rattle.daemon_core.specs.declared.event.Event.{Event}
use Rattle.daemon_core.specs.declared.event.Event.TheVariants as events
use Rattle.daemon_core.specs.declared.outcome.Ending.{Ending}
use Rattle.daemon_core.specs.declared.outcome.Ending.TheVariants.{Answered, Closed, Killed, Waits}

abbrev is_killed : Ending → Bool
is_killed Answered = false
is_killed Closed = false
is_killed Killed = true
is_killed (Waits mask) = false

abbrev killed_if : Option Ending → Bool
killed_if None = false
killed_if (Some ending) = is_killed ending

-- `kill` alone ends a request so
settings_kill : (command : SettingsCommand) → kills command ≡ killed_if (settings_ending command)
settings_kill settings.Kill = refl
settings_kill other = refl

session_kill : (command : SessionCommand) → false ≡ killed_if (session_ending command)
session_kill (session.Idle mask) = refl
session_kill other = refl

command_kill : (command : Command) → is_kill command ≡ killed_if (ending_of command)
unfolding ending_of
command_kill (commands.Settings command) = settings_kill command
command_kill (commands.Session command) = session_kill command
command_kill other = refl

-- what a line did is the end of the daemon exactly where it reads as `kill`
abbrev EndsAs : Bool → Did → Type 0
EndsAs kill (Goes x) = kill ≡ false
EndsAs kill (Refuses refusal) = kill ≡ false
EndsAs kill (Ends ending) = kill ≡ is_killed ending

did_ends : (kill : Bool) (name : CommandName) (does : Result Done CommandRefusal) → kill ≡ false → EndsAs kill (did_of name does)
did_ends kill name (Ok x) h = h
did_ends kill name (Err refusal) h = h

unless_ends : (kill : Bool) (ending : Option Ending) (name : CommandName) (does : Result Done CommandRefusal) → kill ≡ killed_if ending →
    EndsAs kill (unless_it_ends ending (did_of name does))
unless_ends kill None name does h = did_ends kill name does h
unless_ends kill (Some ending) name does h = h

reading_ends : (c : Asker) (spent : Spent) (m : MachineState) (reading : Result NamedCommand Refusal) →
    EndsAs (reads_kill reading) (read_and_performed c spent m reading)
unfolding performed
reading_ends c spent m (Err refusal) = refl
reading_ends c spent m (Ok named) =
    unless_ends (is_kill named.command) (ending_of named.command) named.name (done_by c spent named.command m)
    (command_kill named.command)

line_ends : (c : Asker) (place : Place) (spent : Spent) (line : List ℕ) (m : MachineState) →
    EndsAs (reads_kill (line_reading m.saved.profile place line)) (attempted c place spent line m)
unfolding attempted
line_ends c place spent line m = reading_ends c spent m (line_reading m.saved.profile place line)

-- the commands of a request
follow_kills : (separator : List ℕ) (index : ℕ) (behind : List Op → Spent) (m : MachineState) (rest : Spent → MachineState → Ran)
    (kill : Bool)
    (later : Done → Bool) (did : Did) → EndsAs kill did →
    ((x : Done) → let r = rest (spent_on behind x) x.after in is_killed r.ending ≡ later x) →
    let r = follow separator index behind m rest did in is_killed r.ending ≡ (kill || goes_on did later)
follow_kills separator index behind m rest kill later (Goes x) h same = same x ∙ sym (ap (λ b. b || later x) h)
follow_kills separator index behind m rest kill later (Refuses refusal) h same = sym (ap (λ b. b || false) h)
follow_kills separator index behind m rest kill later (Ends ending) h same =
    sym (ap (λ b. b || false) h ∙ or-false (is_killed ending))

unless_refused : (spent : Spent) (m : MachineState) (index : ℕ) (line : List ℕ) (r : Ran) (kill here : Bool) → is_killed r.ending ≡ kill →
    let s = cond here (wants_memory m spent index line) r in is_killed s.ending ≡ (not here && kill)
unless_refused spent m index line r kill true h = refl
unless_refused spent m index line r kill false h = h

ran_kills : (c : Asker) (place : Place) (separator : List ℕ) (refused : Option ℕ) (index : ℕ) (spent : Spent) (lines : List (List ℕ))
    (m : MachineState) →
    let r = ran c place separator refused index spent lines m in is_killed r.ending ≡ comes_to_kill c place refused index spent lines m
unfolding ran comes_to_kill
ran_kills c place separator refused index spent [] m = refl
ran_kills c place separator refused index spent (line ∷ lines) m =
    unless_refused spent m index line _ _ (is_refused_at refused index)
    (follow_kills separator index (spent_behind place line m spent) m (λ n t. ran c place separator refused (suc index) n lines t)
    (reads_kill (line_reading m.saved.profile place line))
    (λ x. comes_to_kill c place refused (suc index) (spent_on (spent_behind place line m spent) x) lines x.after)
    (attempted c place spent line m) (line_ends c place spent line m)
    (λ x. ran_kills c place separator refused (suc index) (spent_on (spent_behind place line m spent) x) lines x.after))

-- and so the event
of_ran_ends : (c : ℕ) (s : State) (r : Ran) (ending : Ending) → let a = of_ran c s r ending in a.ended ≡ is_killed ending
of_ran_ends c s r Answered = refl
of_ran_ends c s r Closed = refl
of_ran_ends c s r Killed = refl
of_ran_ends c s r (Waits mask) = refl

asked_ends : (c : ℕ) (refused : Option ℕ) (s : State) (request : Request) →
    let a = asked c refused s request in a.ended ≡ request_kills (asking c s) refused (begun c s) s.machine request
asked_ends c refused s (Single line) =
    let r : Ran = ran (asking c s) Alone [] refused 0 (begun c s) (line ∷ []) s.machine in
    of_ran_ends c s r r.ending ∙ ran_kills (asking c s) Alone [] refused 0 (begun c s) (line ∷ []) s.machine
asked_ends c refused s (CommandList lines) =
    let r : Ran = ran (asking c s) InList [] refused 0 (begun c s) lines s.machine in
    of_ran_ends c s r r.ending ∙ ran_kills (asking c s) InList [] refused 0 (begun c s) lines s.machine
asked_ends c refused s (OkList lines) =
    let r : Ran = ran (asking c s) InList list_ok refused 0 (begun c s) lines s.machine in
    of_ran_ends c s r r.ending ∙ ran_kills (asking c s) InList list_ok refused 0 (begun c s) lines s.machine
asked_ends c refused s Noidle = refl

waiting_ends : (noidle : Bool) (c : ℕ) (s : State) → let a = waits_no_more noidle c s in a.ended ≡ false
waiting_ends true c s = refl
waiting_ends false c s = refl

requested_ends : (c : ℕ) (refused : Option ℕ) (s : State) (request : Request) (found : Option (Option Subsystems)) →
    let a = requested_by c refused s request found in a.ended ≡ asks_to_kill c refused s request found
requested_ends c refused s request None = refl
requested_ends c refused s request (Some None) = asked_ends c refused s request
requested_ends c refused s request (Some (Some mask)) = waiting_ends (is_noidle request) c s

connect_ends : (c : ℕ) (s : State) (found : Option Watched) → let a = connects_client c s found in a.ended ≡ false
connect_ends c s None = refl
connect_ends c s (Some w) = refl

acted_ends : (s : State) (event : Event) (refused : Option ℕ) → let a = acted s event refused in a.ended ≡ ends_daemon s event refused
acted_ends s (events.Connect c) refused = connect_ends c s (watched s.clients c)
acted_ends s (events.Request c request) refused = requested_ends c refused s request (waiting_of (watched s.clients c))
acted_ends s (events.Gone c) refused = refl
acted_ends s (events.Fed ticket frames) refused = refl
acted_ends s (events.Ended ticket) refused = refl
acted_ends s (events.Broken ticket cause) refused = refl
acted_ends s (events.Batch job changes) refused = refl
acted_ends s (events.Missing job songs) refused = refl
acted_ends s (events.ScanDone job) refused = refl
acted_ends s (events.Clock time) refused = refl
acted_ends s (events.Keep ticket) refused = refl
acted_ends s (events.Resume plays) refused = refl
acted_ends s (events.Room is_there) refused = refl
acted_ends s (events.Picture c told) refused = refl

pub step_ends : (s : State) (event : Event) (refused : Option ℕ) → (step s event refused).ended ≡ ends_daemon s event refused
unfolding step
step_ends s event refused = acted_ends s event refused

-- Then no client is connected any more.
abbrev Empties : Acted → Type 0
Empties a = a.ended ≡ true → a.after.clients ≡ []

ran_empties : (c : ℕ) (s : State) (r : Ran) (ending : Ending) → Empties (of_ran c s r ending)
ran_empties c s r Answered h = absurd (false≢true h)
ran_empties c s r Closed h = absurd (false≢true h)
ran_empties c s r Killed h = refl
ran_empties c s r (Waits mask) h = absurd (false≢true h)

runs_empty : (c : ℕ) (s : State) (r : Ran) → Empties (runs c s r)
runs_empty c s r = ran_empties c s r r.ending

asked_empties : (c : ℕ) (refused : Option ℕ) (s : State) (request : Request) → Empties (asked c refused s request)
asked_empties c refused s (Single line) = runs_empty c s (ran (asking c s) Alone [] refused 0 (begun c s)
    (line ∷ []) s.machine)
asked_empties c refused s (CommandList lines) = runs_empty c s (ran (asking c s) InList [] refused 0 (begun c s) lines s.machine)
asked_empties c refused s (OkList lines) = runs_empty c s (ran (asking c s) InList list_ok refused 0 (begun c s) lines s.machine)
asked_empties c refused s Noidle = λ h. absurd (false≢true h)

goes_on_empties : (a : Acted) → a.ended ≡ false → Empties a
goes_on_empties a h is = absurd (false≢true (sym h ∙ is))

requested_empties : (c : ℕ) (refused : Option ℕ) (s : State) (request : Request) (found : Option (Option Subsystems)) →
    Empties (requested_by c refused s request found)
requested_empties c refused s request None h = absurd (false≢true h)
requested_empties c refused s request (Some None) h = asked_empties c refused s request h
requested_empties c refused s request (Some (Some mask)) h =
    goes_on_empties (waits_no_more (is_noidle request) c s) (waiting_ends (is_noidle request) c s) h

acted_empties : (s : State) (event : Event) (refused : Option ℕ) → Empties (acted s event refused)
acted_empties s (events.Connect c) refused h =
    goes_on_empties (connects_client c s (watched s.clients c)) (connect_ends c s (watched s.clients c)) h
acted_empties s (events.Request c request) refused h = requested_empties c refused s request (waiting_of (watched s.clients c)) h
acted_empties s (events.Gone c) refused h = absurd (false≢true h)
acted_empties s (events.Fed ticket frames) refused h = absurd (false≢true h)
acted_empties s (events.Ended ticket) refused h = absurd (false≢true h)
acted_empties s (events.Broken ticket cause) refused h = absurd (false≢true h)
acted_empties s (events.Batch job changes) refused h = absurd (false≢true h)
acted_empties s (events.Missing job songs) refused h = absurd (false≢true h)
acted_empties s (events.ScanDone job) refused h = absurd (false≢true h)
acted_empties s (events.Clock time) refused h = absurd (false≢true h)
acted_empties s (events.Keep ticket) refused h = absurd (false≢true h)
acted_empties s (events.Resume plays) refused h = absurd (false≢true h)
acted_empties s (events.Room is_there) refused h = absurd (false≢true h)
acted_empties s (events.Picture c told) refused h = absurd (false≢true h)

pub step_empties : (s : State) (event : Event) (refused : Option ℕ) → (step s event refused).ended ≡ true →
    (step s event refused).after.clients ≡ []
unfolding step
step_empties s event refused h =
    let a : Acted = acted s event refused in
    ap (λ ws. after_reports (with_news a.changed a.notified ws)) (acted_empties s event refused h)
