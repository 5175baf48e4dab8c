-- What a console's client is given, along one history.
use Rattle.std.specs.Prelude.{◌≡◌, ◌≢◌, ℕ, suc, length, ◌==◌, List, [], ◌∷◌, ◌++◌, map, true, false, if◌then◌else◌}
use Rattle.command_text.specs.declared.request.Request.{Request}
use Rattle.state_codec.specs.SavedState.{SavedState}
use Rattle.daemon_core.specs.declared.event.Event.{Event}
use Rattle.daemon_core.specs.declared.event.Event.TheVariants as events
use Rattle.daemon_core.specs.declared.outcome.Output.{Output}
use Rattle.daemon_core.specs.Replay.{Entry, stepped, replay, reply}
use Rattle.machine_core.specs.State.{MachineState}
use Rattle.machine_core.specs.declared.job.Job.{Job}

-- the bytes of these outputs that are for this client
abbrev pub bytes_to : ℕ → List Output → List ℕ
bytes_to c [] = []
bytes_to c (o ∷ outputs) = (if o.client == c then o.bytes else []) ++ bytes_to c outputs

-- A history is a list of entries, the newest first. All that it gives to this client:
abbrev pub given : ℕ → SavedState → List Entry → List ℕ
given c kept [] = []
given c kept (entry ∷ earlier) = given c kept earlier ++ bytes_to c (reply kept earlier entry)

-- these requests of a client, as events
abbrev pub asked_by : ℕ → List Request → List Event
asked_by c requests = map (λ r. events.Request c r) requests

-- the events of a client that connects and then makes these requests
abbrev pub events_of : ℕ → List Request → List Event
events_of c requests = events.Connect c ∷ asked_by c requests

-- What of an event the client asked for: the event itself, and nothing of those of a job, which a request of before started, nor of a clock.
abbrev pub asked : Event → List Event
asked (events.Connect c) = events.Connect c ∷ []
asked (events.Request c request) = events.Request c request ∷ []
asked (events.Gone c) = events.Gone c ∷ []
asked (events.Fed ticket frames) = events.Fed ticket frames ∷ []
asked (events.Ended ticket) = events.Ended ticket ∷ []
asked (events.Broken ticket cause) = events.Broken ticket cause ∷ []
asked (events.Batch number changes) = []
asked (events.Missing number songs) = []
asked (events.ScanDone number) = []
asked (events.Clock time) = []
asked (events.Keep ticket) = []
asked (events.Resume plays) = []
asked (events.Room is_there) = []
asked (events.Picture c told) = []

-- what the client asked for in a history, the oldest first
abbrev pub asked_in : List Entry → List Event
asked_in [] = []
asked_in (entry ∷ earlier) = asked_in earlier ++ asked entry.event

-- the job of this number runs
pub record IsRunning (number : ℕ) (job : Job) : Type 0 where
  pub same : job.number ≡ number
  pub runs : job.runs ≡ true

-- no job runs
abbrev pub RunsNone : Job → Type 0
RunsNone job = job.runs ≡ false

-- how many jobs run or wait behind the one that runs
abbrev pub jobs_left : MachineState → ℕ
jobs_left m = if m.job.runs then suc (length m.waiting) else 0

-- A request may be followed by the events of the jobs that it started: these come while that job runs. A client connects, and makes
-- its next request, while none runs.
abbrev pub ComesInTurn : Job → Event → Type 0
ComesInTurn job (events.Connect c) = RunsNone job
ComesInTurn job (events.Request c request) = RunsNone job
ComesInTurn job (events.Gone c) = Unit {0}
ComesInTurn job (events.Fed ticket frames) = Unit {0}
ComesInTurn job (events.Ended ticket) = Unit {0}
ComesInTurn job (events.Broken ticket cause) = Unit {0}
ComesInTurn job (events.Batch number changes) = IsRunning number job
ComesInTurn job (events.Missing number songs) = IsRunning number job
ComesInTurn job (events.ScanDone number) = IsRunning number job
ComesInTurn job (events.Clock time) = Unit {0}
ComesInTurn job (events.Keep ticket) = Unit {0}
ComesInTurn job (events.Resume plays) = Unit {0}
ComesInTurn job (events.Room is_there) = Unit {0}
ComesInTurn job (events.Picture c told) = Unit {0}

-- each event of a job came while that job ran, and each request while none did
abbrev pub JobsInTurn : SavedState → List Entry → Type 0
JobsInTurn kept [] = Unit {0}
JobsInTurn kept (entry ∷ earlier) =
    (let before = replay kept earlier in ComesInTurn before.machine.job entry.event) × JobsInTurn kept earlier

-- no event of the history closed a client
abbrev pub ClosesNone : SavedState → List Entry → Type 0
ClosesNone kept [] = Unit {0}
ClosesNone kept (entry ∷ earlier) = (let now = stepped (replay kept earlier) entry in now.closes ≡ []) × ClosesNone kept earlier

-- its newest event closed a client, and none before
abbrev pub ClosesAtLast : SavedState → List Entry → Type 0
ClosesAtLast kept [] = ⊥
ClosesAtLast kept (entry ∷ earlier) = (let now = stepped (replay kept earlier) entry in now.closes ≢ []) × ClosesNone kept earlier

-- none before its newest event closed a client
abbrev pub ClosesNoneBefore : SavedState → List Entry → Type 0
ClosesNoneBefore kept [] = Unit {0}
ClosesNoneBefore kept (entry ∷ earlier) = ClosesNone kept earlier
