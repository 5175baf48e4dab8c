-- Events of one client served one after the other, from any state on.
use Rattle.std.specs.Prelude.{◌≡◌, ◌≢◌, ◌⊎◌, ℕ, ◌-◌, ◌^◌, ◌≤◌, length, List, [], ◌∷◌, ◌++◌, Option, None, Result, Ok, Err, OnOk, false}
use Rattle.std.specs.Io.KnownBytes.{Appends, Consumes, IsAtEnd}
use Rattle.disk_model.specs.History.{Change}
use Rattle.disk_model.specs.Later.{AreLater, HasFailed}
use Rattle.command_text.specs.declared.request.Request.{Request}
use Rattle.daemon_core.specs.declared.event.Event.{Event}
use Rattle.daemon_core.specs.State.{State}
use Rattle.daemon_core.specs.Replay.{Entry, stepped}
use Rattle.live_stage.specs.declared.refusal.LiveError.{LiveError}
use Rattle.live_stage.specs.declared.refusal.LiveError.TheVariants.{Broken, NoMemory, NumbersSpent}
use Rattle.play_journal.specs.Calls.{SameFaults}
use Rattle.live_stage.specs.Answer.{IsBeforeOrAfter}
use Rattle.live_stage.specs.LiveState.{LiveState}
use Rattle.live_stage.specs.Found.{AllFindNow}
use Rattle.live_stage.specs.Transcript.{replayed}
use Rattle.client_session.specs.Requests.{fault_of, left_by, left_of, requests_of}
use Rattle.mpd_program.specs.Console.{bytes_to, asked, asked_in, ComesInTurn, RunsNone}
use Rattle.mpd_program.specs.declared.console.Ending.{Ending}
use Rattle.mpd_program.specs.declared.console.Ending.TheVariants.{Whole, Cut, Faulted}
use Rattle.mpd_program.specs.declared.console.serving.Service.{Service}

-- the step of this event leads from the one state to the other
pub record StepsTo (event : Event) (s t : State) : Type 0 where
  pub refused : Option ℕ
  pub state : let now = stepped s (record { event = event; refused = refused }) in t ≡ now.after

-- what a history that began with this state gives to this client
abbrev pub given_from : ℕ → State → List Entry → List ℕ
given_from c s [] = []
given_from c s (entry ∷ earlier) = given_from c s earlier ++ (let now = stepped (replayed s earlier) entry in bytes_to c now.outputs)

-- no event of a history that began with this state closed a client
abbrev pub KeepsOpen : State → List Entry → Type 0
KeepsOpen s [] = Unit {0}
KeepsOpen s (entry ∷ earlier) = (let now = stepped (replayed s earlier) entry in now.closes ≡ []) × KeepsOpen s earlier

-- the newest did, and none before
abbrev pub ClosesLast : State → List Entry → Type 0
ClosesLast s [] = ⊥
ClosesLast s (entry ∷ earlier) = (let now = stepped (replayed s earlier) entry in now.closes ≢ []) × KeepsOpen s earlier

-- none before the newest did
abbrev pub KeepsOpenBefore : State → List Entry → Type 0
KeepsOpenBefore s [] = Unit {0}
KeepsOpenBefore s (entry ∷ earlier) = KeepsOpen s earlier

-- each event of a job came while that job ran, and each request while none did
abbrev pub KeepsTurns : State → List Entry → Type 0
KeepsTurns s [] = Unit {0}
KeepsTurns s (entry ∷ earlier) =
    (let before = replayed s earlier in ComesInTurn before.machine.job entry.event) × KeepsTurns s earlier

-- these bytes were to be written, and a front of them was
pub record WritesFront (bytes : List ℕ) (before after : Option (List ℕ)) : Type 0 where
  pub written : List ℕ
  pub unwritten : List ℕ
  pub parts : written ++ unwritten ≡ bytes
  pub appended : Appends before after written

-- Serving comes to `Ok` where all of the events were served, else to the ending that stopped it: `Whole` after the first that closed a
-- client, `Cut` where a front of them was served, `Faulted` where a disk failed.

-- no event closed a client; or the newest did, and none before; or none before the newest did
abbrev pub StaysOpen : Result (Unit {0}) Ending → State → List Entry → Type 0
StaysOpen (Ok done) s history = KeepsOpen s history
StaysOpen (Err Whole) s history = ClosesLast s history
StaysOpen (Err Cut) s history = KeepsOpenBefore s history
StaysOpen (Err Faulted) s history = KeepsOpen s history

-- these bytes were written, or where the serving was cut a front of them
abbrev pub Writes : Result (Unit {0}) Ending → List ℕ → Option (List ℕ) → Option (List ℕ) → Type 0
Writes (Ok done) bytes before after = Appends before after bytes
Writes (Err Whole) bytes before after = Appends before after bytes
Writes (Err Cut) bytes before after = WritesFront bytes before after
Writes (Err Faulted) bytes before after = Appends before after bytes

-- In this state the next of these events came, and a disk failed in it: it is kept or not.
pub record FailsInNext (Honest : Type 0) (t : State) (events : List Event) (a b : List Change) : Type 0 where
  pub event : Event
  pub behind : List Event
  pub next : events ≡ asked event ++ behind
  pub in_turn : ComesInTurn t.machine.job event
  pub holds : Honest → (refused : Option ℕ) × AllFindNow (IsBeforeOrAfter t event refused) a b

-- in this state these events are not served: none, or any, or those from one on in which a disk failed
abbrev pub Leaves : Type 0 → Result (Unit {0}) Ending → State → List Event → List Change → List Change → Type 0
Leaves Honest (Ok done) t events a b = events ≡ []
Leaves Honest (Err Whole) t events a b = Unit {0}
Leaves Honest (Err Cut) t events a b = Unit {0}
Leaves Honest (Err Faulted) t events a b = FailsInNext Honest t events a b

-- What came of serving these events from a state on: a history of them, with the events of jobs in their turn, and what it gives to the
-- client is what was written. The disks' histories are those at the end.
pub record ServesEvents (Honest : Type 0) (c : ℕ) (events : List Event) (s t : State) (a b : List Change)
    (before after : Option (List ℕ)) (result : Result (Unit {0}) Ending) : Type 0 where
  pub history : List Entry
  pub behind : List Event
  pub front : asked_in history ++ behind ≡ events
  pub in_turn : KeepsTurns s history
  pub stays_open : StaysOpen result s history
  pub state : result ≢ Err Faulted → t ≡ replayed s history
  pub written : Writes result (given_from c s history) before after
  pub left : Leaves Honest result (replayed s history) behind a b

-- how the serving ends where an event is refused
abbrev pub ending_of : LiveError → Ending
ending_of Broken = Faulted
ending_of NoMemory = Cut
ending_of NumbersSpent = Cut

-- no disk has failed in between, and the stage can be used
pub record IsUnfailed {D : Type 0} (faults : D → ℕ) (old new : LiveState D) : Type 0 where
  pub usable : new.is_broken ≡ false
  pub met_none : SameFaults faults old.a old.b new.a new.b

-- How the stage has fared: it can be used, and no disk has failed, but where a disk fault stopped the serving, and there one has.
pub record Fares {D : Type 0} (honest : D → Type 0) (history : D → List Change) (faults : D → ℕ) (old new : LiveState D)
    (result : Result (Unit {0}) Ending) : Type 0 where
  pub usable : result ≢ Err Faulted → IsUnfailed faults old new
  pub failed : honest old.a → honest old.b → result ≡ Err Faulted → HasFailed faults old.a old.b new.a new.b
  pub later : AreLater honest history faults old.a old.b new.a new.b

-- What came of serving these events: they were served over the stage, for the client, to the writer; and where all of them were, the
-- session is as it was.
pub record Serves {D F W : Type 0} (honest : D → Type 0) (history : D → List Change) (faults : D → ℕ) (contents : W → Option (List ℕ))
    (events : List Event) (old new : Service D F W) (result : Result (Unit {0}) Ending) : Type 0 where
  pub served : ServesEvents (honest old.live.a × honest old.live.b) old.client events old.live.state new.live.state
      (history new.live.a) (history new.live.b) (contents old.writer.now) (contents new.writer.now) result
  pub stage : Fares honest history faults old.live new.live result
  pub session : OnOk result (new.session ≡ old.session)
  pub same_client : new.client ≡ old.client
  pub same_writer : new.writer.ghost_name ≡ old.writer.ghost_name

-- the stage can be used, and all that was queued was sent
pub record IsUsable {D F W : Type 0} (service : Service D F W) : Type 0 where
  pub stage : service.live.is_broken ≡ false
  pub sent : service.session.queued ≡ []

-- and no job runs, so that a request may come
pub record IsReady {D F W : Type 0} (service : Service D F W) : Type 0 where
  pub usable : IsUsable service
  pub idle : RunsNone service.live.state.machine.job

-- the service whose session took this piece of the stream
abbrev pub fed : {D F W : Type 0} → Service D F W → List ℕ → Service D F W
fed service piece = record service { session = record service.session { left = left_by service.session.left piece } }

-- The input is at its end; or it was read 2^64 - 1 times and gave a byte each time, which is taken for its end. Neither a line nor
-- a command list of it is too long.
pub record IsAllRead (read : List ℕ) (input : Option (List ℕ)) : Type 0 where
  pub ended : IsAtEnd input ⊎ (2 ^ 64 - 1 ≤ length read)
  pub whole : fault_of (left_of read) ≡ None

-- What came of the input that was read, whose requests make these events: at its end all of them were served, and no job runs, else the
-- serving stopped.
pub record ServesInput {D F W : Type 0} (honest : D → Type 0) (history : D → List Change) (faults : D → ℕ) (contents : W → Option (List ℕ))
    (events : List Request → List Event) (first last : Option (List ℕ)) (old new : Service D F W) (result : Result (Unit {0}) Ending)
    : Type 0 where
  pub read : List ℕ
  pub consumed : Consumes first last read
  pub served : Serves honest history faults contents (events (requests_of read)) (fed old read) new result
  pub at_end : OnOk result (IsAllRead read last × RunsNone new.live.state.machine.job)

-- how the serving of a client ended that came to this
abbrev pub ending_with : Result (Unit {0}) Ending → Ending
ending_with (Ok done) = Whole
ending_with (Err ending) = ending
