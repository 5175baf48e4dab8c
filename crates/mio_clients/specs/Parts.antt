-- What the parts of a turn of the loop carry.
use Rattle.std.specs.Prelude.{◌≡◌, ◌≢◌, ◌⊎◌, ℕ, ◌+◌, ◌*◌, ◌≤◌, ◌==◌, min, sum_by, List, [], ◌∷◌, ◌++◌, Bool, true, false, Option, None}
use Rattle.std.specs.Prelude.{Some, if◌then◌else◌}
use Rattle.command_text.specs.declared.request.Request.{Request}
use Rattle.daemon_core.specs.declared.event.Event.{Event}
use Rattle.daemon_core.specs.declared.event.Event.TheVariants as stage_events
use Rattle.daemon_core.specs.declared.outcome.Output.{Output}
use Rattle.stage_workers.specs.declared.served.Served.{Served as ServedEvent}
use Rattle.stage_workers.specs.PassState.{PassState}
use Rattle.stage_workers.specs.declared.refusal.StageError.{StageError}
use Rattle.stage_workers.specs.declared.refusal.StageError.TheVariants as errors
use Rattle.mio_clients.specs.declared.part.Part.{Part}
use Rattle.mio_clients.specs.declared.part.Part.TheVariants.{Served, Collected, Refused}
use Rattle.mio_clients.specs.declared.event.ClientEvent.{ClientEvent}
use Rattle.mio_clients.specs.declared.event.ClientEvent.TheVariants as events
use Rattle.mio_clients.specs.declared.turning.Kept.{Kept}
use Rattle.mio_clients.specs.declared.turning.Kept.TheVariants as kept
use Rattle.live_stage.specs.Group.{answer_looks, most_looks}
use Rattle.live_stage.specs.Numbers.{greatest}
use Rattle.mio_clients.specs.Events.{asked_in, asked_by_event, AsksNothing}
use Rattle.mio_clients.specs.Connections.{ConnectionsState, IsVacant}
use Rattle.mio_clients.specs.Later.{no_bytes, no_requests}
use Rattle.mio_clients.specs.Leaving.{AllFollow}
use Rattle.mio_clients.specs.Seeking.{sought_in}

-- the bytes of these outputs that are for this client
abbrev pub bytes_to : ℕ → List Output → List ℕ
bytes_to c [] = []
bytes_to c (output ∷ outputs) = (if output.client == c then output.bytes else []) ++ bytes_to c outputs

-- the bytes that are for this client of the outputs of events, in order
abbrev pub bytes_to_all : ℕ → List (List Output) → List ℕ
bytes_to_all c [] = []
bytes_to_all c (outputs ∷ events) = bytes_to c outputs ++ bytes_to_all c events

-- what each client is given by outputs
abbrev pub sent_by : List Output → ℕ → List ℕ
sent_by outputs c = bytes_to c outputs

abbrev pub sent_by_all : List (List Output) → ℕ → List ℕ
sent_by_all events c = bytes_to_all c events

-- what each client is given where an event is served: what was left before it, and then what it gives
abbrev pub sent_by_served : {D : Type 0} → ServedEvent D → ℕ → List ℕ
sent_by_served served c = bytes_to_all c served.before ++ bytes_to c served.turn.outputs

-- what a client is given in a part
abbrev pub bytes_of : {D : Type 0} → ℕ → Part D → List ℕ
bytes_of c (Served served) = sent_by_served served c
bytes_of c (Collected outbox) = bytes_to_all c outbox
bytes_of c (Refused error) = []

-- what each client is given in parts, in order
abbrev pub bytes_in : {D : Type 0} → List (Part D) → ℕ → List ℕ
bytes_in [] c = []
bytes_in (part ∷ parts) c = bytes_of c part ++ bytes_in parts c

-- what a client asks by an event of a stage
abbrev pub asked_of : ℕ → Event → List Request
asked_of c (stage_events.Connect client) = []
asked_of c (stage_events.Request client request) = if client == c then request ∷ [] else []
asked_of c (stage_events.Gone client) = []
asked_of c (stage_events.Fed ticket frames) = []
asked_of c (stage_events.Ended ticket) = []
asked_of c (stage_events.Broken ticket cause) = []
asked_of c (stage_events.Batch job changes) = []
asked_of c (stage_events.Missing job songs) = []
asked_of c (stage_events.ScanDone job) = []
asked_of c (stage_events.Clock time) = []
asked_of c (stage_events.Keep ticket) = []
asked_of c (stage_events.Resume plays) = []
asked_of c (stage_events.Room is_there) = []
asked_of c (stage_events.Picture client told) = []

-- a clock's event
abbrev pub is_of_clock : Event → Bool
is_of_clock (stage_events.Clock time) = true
is_of_clock event = false

-- what a clock told was handed over, or refused
abbrev pub CarriesClock : {D : Type 0} → Part D → Type 0
CarriesClock (Served served) = is_of_clock served.turn.asked ≡ true
CarriesClock (Collected outbox) = ⊥
CarriesClock (Refused error) = Unit {0}

-- to these parts one of a clock was added, or none
abbrev pub AddsClock : {D : Type 0} → List (Part D) → List (Part D) → Type 0
AddsClock {D} before after = (after ≡ before) ⊎ ((part : Part D) × (after ≡ before ++ part ∷ []) × CarriesClock part)

-- it was told whether there is room, or that was refused
abbrev pub is_of_room : Event → Bool
is_of_room (stage_events.Room is_there) = true
is_of_room event = false

abbrev pub CarriesRoom : {D : Type 0} → Part D → Type 0
CarriesRoom (Served served) = is_of_room served.turn.asked ≡ true
CarriesRoom (Collected outbox) = ⊥
CarriesRoom (Refused error) = Unit {0}

-- to these parts one of room was added, or none
abbrev pub AddsRoom : {D : Type 0} → List (Part D) → List (Part D) → Type 0
AddsRoom {D} before after = (after ≡ before) ⊎ ((part : Part D) × (after ≡ before ++ part ∷ []) × CarriesRoom part)

-- the request of a client that a part carries, if it does
abbrev pub request_of : {D : Type 0} → ℕ → Part D → List Request
request_of c (Served served) = asked_of c served.turn.asked
request_of c (Collected outbox) = []
request_of c (Refused error) = []

-- the requests of each client that parts carry, in order
abbrev pub requests_in : {D : Type 0} → List (Part D) → ℕ → List Request
requests_in [] c = []
requests_in (part ∷ parts) c = request_of c part ++ requests_in parts c

abbrev pub served_count : {D : Type 0} → List (Part D) → ℕ
served_count [] = 0
served_count (Served served ∷ parts) = 1 + served_count parts
served_count (Collected outbox ∷ parts) = served_count parts
served_count (Refused error ∷ parts) = served_count parts

-- a part that refuses is the last
abbrev pub RefusesLast : {D : Type 0} → List (Part D) → Type 0
RefusesLast [] = Unit {0}
RefusesLast (Served served ∷ parts) = RefusesLast parts
RefusesLast (Collected outbox ∷ parts) = RefusesLast parts
RefusesLast (Refused error ∷ parts) = parts ≡ []

abbrev pub refuses : {D : Type 0} → List (Part D) → Bool
refuses [] = false
refuses (Served served ∷ parts) = refuses parts
refuses (Collected outbox ∷ parts) = refuses parts
refuses (Refused error ∷ parts) = true

-- how much the event of a part looked at
abbrev pub looks_of : {D : Type 0} → Part D → ℕ
looks_of (Served served) = answer_looks served.turn
looks_of (Collected outbox) = 0
looks_of (Refused error) = 0

-- how much the events of parts looked at in all
abbrev pub looks_in : {D : Type 0} → List (Part D) → ℕ
looks_in parts = sum_by looks_of parts

-- so much was looked at, and there is a bound or none: no more than that
abbrev pub IsWithin : Option ℕ → ℕ → Type 0
IsWithin None looks = Unit {0}
IsWithin (Some most) looks = looks ≤ most

-- So much was looked at, and there is a bound or none: no more than that and what a group may look at by which it was passed. It is counted
-- up to the greatest number.
abbrev pub EndsWithin : Option ℕ → ℕ → Type 0
EndsWithin None looks = Unit {0}
EndsWithin (Some most) looks = min looks greatest ≤ most + 2 * most_looks

-- the requests of a client that a turn may leave for the next one: where it has a bound those that wait for a picture, else none
abbrev pub waiting_in : Option ℕ → ℕ → List ClientEvent → List Request
waiting_in None c events = []
waiting_in (Some most) c events = sought_in c events

-- where no part refuses, no other request is left among these events
abbrev pub IsServedAll : {D : Type 0} → Option ℕ → List (Part D) → List ClientEvent → Type 0
IsServedAll bound parts events = refuses parts ≡ false → (c : ℕ) → asked_in c events ≡ waiting_in bound c events

-- Parts were added: what they give was given, the requests that they carry were served, and the pass has their share. None
-- refuses exactly where it goes on.
pub record Serves {S D : Type 0} (remaining contents : S → Option (List ℕ)) (goes_on : Bool) (old new : ConnectionsState S)
    (before after : List (Part D)) (pass passed : PassState) : Type 0 where
  pub added : List (Part D)
  pub parts : after ≡ before ++ added
  pub later : AllFollow remaining contents (bytes_in added) (requests_in added) old new
  pub kind : passed.kind ≡ pass.kind
  pub share : passed.share ≡ pass.share + served_count added
  pub seen : pass.seen ≤ passed.seen
  pub refused : RefusesLast added
  pub unrefused : goes_on ≡ true → refuses added ≡ false
  pub told : goes_on ≡ false → refuses added ≡ true

-- what the stage is handed of what a client did
abbrev pub stage_event_of : ClientEvent → Event
stage_event_of (events.Connect client) = stage_events.Connect client
stage_event_of (events.Request client request) = stage_events.Request client request
stage_event_of (events.Seeking client request) = stage_events.Request client request
stage_event_of (events.Picture client told) = stage_events.Picture client told
stage_event_of (events.Gone client) = stage_events.Gone client

-- whether a turn goes on behind requests that were refused: where they found no memory, or no number
abbrev pub goes_on_behind : StageError → Bool
goes_on_behind errors.NoMemory = true
goes_on_behind errors.NumbersSpent = true
goes_on_behind errors.Broken = false
goes_on_behind (errors.Rewound seen found) = false

-- whether it goes on behind an event that was refused, of which this is kept
abbrev pub goes_on_with : StageError → Kept → Bool
goes_on_with error (kept.Event event) = false
goes_on_with error (kept.Client client) = goes_on_behind error

-- what is kept of an event: itself, unless it is a request, of which its client's number is
abbrev pub IsKeptOf : ClientEvent → Kept → Type 0
IsKeptOf event (kept.Event same) = (same ≡ event) × AsksNothing same
IsKeptOf event (kept.Client client) = (c : ℕ) → client ≢ c → asked_by_event c event ≡ []

-- where an event is kept, it asks for nothing
abbrev pub KeepsNoRequest : Kept → Type 0
KeepsNoRequest (kept.Event event) = AsksNothing event
KeepsNoRequest (kept.Client client) = Unit {0}

-- an event is gathered anew, or a client was let go of, and of its requests
abbrev pub IsKeptAs : {S : Type 0} → (S → Option (List ℕ)) → (S → Option (List ℕ)) → Kept → ConnectionsState S → ConnectionsState S → Type 0
IsKeptAs remaining contents (kept.Event event) old new = new ≡ record old { events = event ∷ old.events; room = new.room }
IsKeptAs remaining contents (kept.Client client) old new =
    AllFollow remaining contents no_bytes no_requests old new × IsVacant new client × (asked_in client new.events ≡ [])
