-- What an event does.
use Rattle.std.specs.Prelude.{ℕ, List, [], ◌∷◌, ◌++◌, map, Bool, true, false, Option, Some, None}
use Rattle.std.specs.List.{flat_map}
use Rattle.client_messages.specs.Listeners.{left as forgotten}
use Rattle.command_text.specs.Answer.{ok, list_ok, greeting}
use Rattle.command_text.specs.AnswerNames.{changed_line}
use Rattle.command_text.specs.declared.place.Place.TheVariants.{Alone, InList}
use Rattle.command_text.specs.declared.request.Request.{Request}
use Rattle.command_text.specs.declared.request.Request.TheVariants.{Single, List as CommandList, OkList, Noidle}
use Rattle.idle_masks.specs.Subsystems.{listed}
use Rattle.idle_masks.specs.Watched.{watched, joined, reports_of, after_reports}
use Rattle.idle_masks.specs.declared.ready.Report.{Report}
use Rattle.idle_masks.specs.declared.subsystem.Subsystem.{Subsystem}
use Rattle.idle_masks.specs.declared.subsystem.Subsystems.{Subsystems}
use Rattle.idle_masks.specs.declared.watch.Watched.{Watched}
use Rattle.machine_core.specs.Keeping.{kept_event, when_kept, when_resumed}
use Rattle.machine_core.specs.Missing.{when_missed}
use Rattle.machine_core.specs.Reports.{when_fed, when_ended, when_broken}
use Rattle.machine_core.specs.Room.{when_room}
use Rattle.machine_core.specs.Scanning.{when_found, when_scanned}
use Rattle.state_codec.specs.declared.op.Op.{Op}
use Rattle.daemon_core.specs.Pending.{Moment, with_news}
use Rattle.daemon_core.specs.Run.{Asker, Spent, asker, ran, unspent}
use Rattle.daemon_core.specs.Session.{Acted, nothing, happened, output, without, waiting, runs}
use Rattle.daemon_core.specs.Seen.{view_of, unviewed}
use Rattle.daemon_core.specs.Pictures.{pictured_where, told_for, unpictured}
use Rattle.daemon_core.specs.State.{State, clocked, with_clients, with_views, with_messages, with_pictures}
use Rattle.daemon_core.specs.declared.event.Event.{Event}
use Rattle.daemon_core.specs.declared.event.Event.TheVariants as events
use Rattle.daemon_core.specs.declared.outcome.Output.{Output}
use Rattle.daemon_core.specs.declared.picture.PictureTold.{PictureTold}

-- a client that was not connected is, with nothing pending, and is greeted
abbrev pub connects_client : ℕ → State → Option Watched → Acted
connects_client c s (Some w) = nothing s
connects_client c s None =
    record (nothing (with_pictures (with_messages (with_views (with_clients s (joined s.clients c)) (unviewed s.views c))
    (forgotten s.messages c)) (unpictured s.pictures c))) {
      answer = output c greeting ∷ [];
      connected = Some c;
    }

-- what the first command of a request of this client begins with
abbrev pub begun : ℕ → State → Spent
begun c s = unspent s.machine (view_of s.views c) s.messages

-- this client, with what was read for it
abbrev pub asking : ℕ → State → Asker
asking c s = asker c (told_for s.pictures c)

-- A client that does not wait: `noidle` is nothing to it, a line is a request of one command, a list one of several.
abbrev pub asked : ℕ → Option ℕ → State → Request → Acted
asked c refused s (Single line) = runs c s (ran (asking c s) Alone [] refused 0 (begun c s) (line ∷ []) s.machine)
asked c refused s (CommandList lines) = runs c s (ran (asking c s) InList [] refused 0 (begun c s) lines s.machine)
asked c refused s (OkList lines) = runs c s (ran (asking c s) InList list_ok refused 0 (begun c s) lines s.machine)
asked c refused s Noidle = nothing s

-- A client that waits: `noidle` ends its waiting, and anything else closes it without a byte.
abbrev pub waits_no_more : Bool → ℕ → State → Acted
waits_no_more true c s = record (nothing (waiting c None s)) { answer = output c ok ∷ [] }
waits_no_more false c s = record (nothing (without c s)) { closes = c ∷ [] }

abbrev pub is_noidle : Request → Bool
is_noidle (Single line) = false
is_noidle (CommandList lines) = false
is_noidle (OkList lines) = false
is_noidle Noidle = true

abbrev pub asked_waiting : ℕ → State → Request → Acted
asked_waiting c s request = waits_no_more (is_noidle request) c s

abbrev pub requested_by : ℕ → Option ℕ → State → Request → Option (Option Subsystems) → Acted
requested_by c refused s request None = nothing s
requested_by c refused s request (Some None) = asked c refused s request
requested_by c refused s request (Some (Some mask)) = asked_waiting c s request

abbrev pub waiting_of : Option Watched → Option (Option Subsystems)
waiting_of None = None
waiting_of (Some w) = Some w.waiting

-- a picture was read for a client that is connected: its next request may tell it
abbrev pub reads_picture : ℕ → PictureTold → State → State
reads_picture c told s = with_pictures s (pictured_where (watched s.clients c) s.pictures c told)

-- What an event does, where memory is refused at one of its commands or at none.
abbrev pub acted : State → Event → Option ℕ → Acted
acted s (events.Connect c) refused = connects_client c s (watched s.clients c)
acted s (events.Request c request) refused = requested_by c refused s request (waiting_of (watched s.clients c))
acted s (events.Gone c) refused = nothing (without c s)
acted s (events.Fed ticket frames) refused = happened s (when_fed ticket frames s.machine)
acted s (events.Ended ticket) refused = happened s (kept_event s.machine (when_ended ticket s.machine))
acted s (events.Broken ticket cause) refused = happened s (kept_event s.machine (when_broken ticket cause s.machine))
acted s (events.Batch job changes) refused = happened s (kept_event s.machine (when_found job changes s.machine))
acted s (events.Missing job songs) refused = happened s (when_missed job songs s.machine)
acted s (events.ScanDone job) refused = happened s (when_scanned job s.machine)
acted s (events.Clock time) refused = nothing (clocked time s)
acted s (events.Keep ticket) refused = happened s (when_kept ticket s.machine)
acted s (events.Resume plays) refused = happened s (when_resumed plays s.machine)
acted s (events.Room is_there) refused = happened s (when_room is_there s.machine)
acted s (events.Picture c told) refused = nothing (reads_picture c told s)

abbrev pub line_if : Bool → Subsystem → List ℕ
line_if true x = changed_line x
line_if false x = []

-- the lines that tell a waiting client what has changed
abbrev pub told : Subsystems → List ℕ
told set = flat_map changed_line (listed set) ++ ok

abbrev pub told_to : Report → Output
told_to report = output report.client (told report.changed)

-- what an event did, all told
pub record Stepped : Type 0 where
  pub after : State
  pub outputs : List Output
  pub closes : List ℕ
  pub ops : List Op
  pub refused_at : Option ℕ
  pub looks : ℕ
  pub ended : Bool
  pub moment : Moment

-- What is news to a client is pending for it; then each client that waits for a pending subsystem is told, and what it was told is pending
-- no more.
abbrev pub settles : Acted → Stepped
settles a =
    let clients = with_news a.changed a.notified a.after.clients in
    record {
      after = with_clients a.after (after_reports clients);
      outputs = a.answer ++ map told_to (reports_of clients);
      closes = a.closes;
      ops = a.ops;
      refused_at = a.refused_at;
      looks = a.looks;
      ended = a.ended;
      moment = record { connected = a.connected; changed = a.changed; notified = a.notified; reports = reports_of clients };
    }

unfoldable pub step : State → Event → Option ℕ → Stepped
step s event refused = settles (acted s event refused)
