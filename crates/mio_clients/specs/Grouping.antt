-- Which of the events that wait are served together.
use Rattle.std.specs.Prelude.{◌≡◌, ◌≢◌, ℕ, zero, suc, ◌+◌, ◌-◌, ◌<◌, ◌≤◌, List, [], ◌∷◌, ◌++◌, length, Bool}
use Rattle.command_text.specs.declared.request.Request.{Request}
use Rattle.command_text.specs.declared.request.Request.TheVariants.{Single, OkList, Noidle}
use Rattle.command_text.specs.declared.request.Request.TheVariants as requests
use Rattle.daemon_core.specs.declared.event.Event.{Event}
use Rattle.daemon_core.specs.declared.outcome.Output.{Output}
use Rattle.live_stage.specs.Answer.{Answer}
use Rattle.mio_clients.specs.declared.event.ClientEvent.{ClientEvent}
use Rattle.mio_clients.specs.declared.event.ClientEvent.TheVariants as events
use Rattle.mio_clients.specs.declared.part.Part.{Part}
use Rattle.mio_clients.specs.declared.part.Part.TheVariants.{Served}
use Rattle.mio_clients.specs.declared.queue.Place.{Place}
use Rattle.mio_clients.specs.declared.queue.Place.TheVariants.{Outside, Inside, Last}
use Rattle.mio_clients.specs.Connections.{ConnectionsState, IsVacant}
use Rattle.mio_clients.specs.Events.{asked_in}
use Rattle.mio_clients.specs.Parts.{asked_of}
use Rattle.mio_clients.specs.Waiting.{QuietBehind}

-- the most events that are served together
abbrev pub group_limit : ℕ
group_limit = 64

-- what an event is to a group: a request is in it, a command list the last of it, and anything else is not
abbrev pub place_of : ClientEvent → Place
place_of (events.Connect client) = Outside
place_of (events.Request client (Single line)) = Inside
place_of (events.Request client (requests.List lines)) = Last
place_of (events.Request client (OkList lines)) = Last
place_of (events.Request client Noidle) = Inside
place_of (events.Seeking client request) = Outside
place_of (events.Picture client told) = Outside
place_of (events.Gone client) = Outside

abbrev pub len_by : Place → ℕ → ℕ
len_by Outside more = 0
len_by Inside more = 1 + more
len_by Last more = 1

-- How many of these events are served together, at most so many: the requests that stand first, up to a command list.
abbrev pub group_len : ℕ → List ClientEvent → ℕ
group_len zero events = 0
group_len (suc n) [] = 0
group_len (suc n) (event ∷ rest) = len_by (place_of event) (group_len n rest)

-- the requests of a client among the events of a stage, in order
abbrev pub asked_of_all : ℕ → List Event → List Request
asked_of_all c [] = []
asked_of_all c (event ∷ events) = asked_of c event ++ asked_of_all c events

-- An event is a request of this client or of none.
abbrev pub IsOf : ℕ → Event → Type 0
IsOf client event = (c : ℕ) → client ≢ c → asked_of c event ≡ []

-- these are the clients of these events, one for each
abbrev pub AreClientsOf : List Event → List ℕ → Type 0
AreClientsOf [] [] = Unit {0}
AreClientsOf [] (client ∷ clients) = ⊥
AreClientsOf (event ∷ events) [] = ⊥
AreClientsOf (event ∷ events) (client ∷ clients) = IsOf client event × AreClientsOf events clients

-- so many events less are left behind which none is to be served
abbrev pub TakesMany : ℕ → List ClientEvent → List ClientEvent → Type 0
TakesMany count before after = (waits : Bool) (n : ℕ) → 0 < n → QuietBehind waits n before → QuietBehind waits (n - count) after

-- the first of these events were taken, as the stage takes them
pub record TakesGroup {S : Type 0} (old new : ConnectionsState S) (events : List Event) (clients : List ℕ) : Type 0 where
  pub same : new ≡ record old { events = new.events; room = new.room }
  pub asked : (c : ℕ) → asked_in c old.events ≡ asked_of_all c events ++ asked_in c new.events
  pub whose : AreClientsOf events clients
  pub quiet : (waits : Bool) (n : ℕ) → QuietBehind waits (n + length events) old.events → QuietBehind waits n new.events

-- an event was put back at the front
pub record PutsBackOne {S : Type 0} (old new : ConnectionsState S) (event : Event) : Type 0 where
  pub same : new ≡ record old { events = new.events; room = new.room }
  pub asked : (c : ℕ) → asked_in c new.events ≡ asked_of c event ++ asked_in c old.events
  pub quiet : (waits : Bool) (n : ℕ) → QuietBehind waits n old.events → QuietBehind waits (n + 1) new.events
  pub room : old.room ≤ new.room + 1

-- events were put back at the front, in order
pub record PutsBack {S : Type 0} (old new : ConnectionsState S) (events : List Event) : Type 0 where
  pub same : new ≡ record old { events = new.events; room = new.room }
  pub asked : (c : ℕ) → asked_in c new.events ≡ asked_of_all c events ++ asked_in c old.events
  pub quiet : (waits : Bool) (n : ℕ) → QuietBehind waits n old.events → QuietBehind waits (n + length events) new.events

-- clients were let go of, and all that they asked for
abbrev pub AreGone : {S : Type 0} → ConnectionsState S → List ℕ → Type 0
AreGone connections [] = Unit {0}
AreGone connections (client ∷ clients) =
    (IsVacant connections client × (asked_in client connections.events ≡ [])) × AreGone connections clients

-- the parts of a group: what was in the outbox goes out before the first answer
abbrev pub parts_of : {D : Type 0} → List (List Output) → List Answer → List (Part D)
parts_of before [] = []
parts_of before (t ∷ turns) = Served (record { before = before; turn = t }) ∷ parts_of [] turns
