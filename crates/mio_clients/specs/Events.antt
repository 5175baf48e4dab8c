-- What clients did, gathered until it is served.
use Rattle.std.specs.Prelude.{ℕ, ◌==◌, List, [], ◌∷◌, ◌++◌, map, Bool, false, Option, None, Some, ◌||◌, if◌then◌else◌}
use Rattle.command_text.specs.declared.request.Request.{Request}
use Rattle.command_text.specs.declared.request.Request.TheVariants.{Single, OkList, Noidle}
use Rattle.command_text.specs.declared.request.Request.TheVariants as requests
use Rattle.mio_clients.specs.declared.event.ClientEvent.{ClientEvent}
use Rattle.mio_clients.specs.declared.event.ClientEvent.TheVariants as events

-- what the client of this number asks for by an event
abbrev pub asked_by_event : ℕ → ClientEvent → List Request
asked_by_event c (events.Connect client) = []
asked_by_event c (events.Request client request) = if client == c then request ∷ [] else []
asked_by_event c (events.Seeking client request) = if client == c then request ∷ [] else []
asked_by_event c (events.Picture client told) = []
asked_by_event c (events.Gone client) = []

-- the requests of a client among events, in order
abbrev pub asked_in : ℕ → List ClientEvent → List Request
asked_in c [] = []
asked_in c (event ∷ rest) = asked_by_event c event ++ asked_in c rest

-- whether this client asks for something by an event
abbrev pub is_request_of : ℕ → ClientEvent → Bool
is_request_of c (events.Connect client) = false
is_request_of c (events.Request client request) = client == c
is_request_of c (events.Seeking client request) = client == c
is_request_of c (events.Picture client told) = false
is_request_of c (events.Gone client) = false

-- whether a request of this client is among events
abbrev pub has_request_of : ℕ → List ClientEvent → Bool
has_request_of c [] = false
has_request_of c (event ∷ rest) = is_request_of c event || has_request_of c rest

-- events without the requests of this client
abbrev pub without : ℕ → List ClientEvent → List ClientEvent
without c [] = []
without c (event ∷ rest) = (if is_request_of c event then [] else event ∷ []) ++ without c rest

-- the client that waits for an answer of an event: `noidle` has one to a client in `idle` alone, which waits already
abbrev pub asker_of : ClientEvent → Option ℕ
asker_of (events.Connect client) = None
asker_of (events.Request client (Single line)) = Some client
asker_of (events.Request client (requests.List lines)) = Some client
asker_of (events.Request client (OkList lines)) = Some client
asker_of (events.Request client Noidle) = None
asker_of (events.Seeking client (Single line)) = Some client
asker_of (events.Seeking client (requests.List lines)) = Some client
asker_of (events.Seeking client (OkList lines)) = Some client
asker_of (events.Seeking client Noidle) = None
asker_of (events.Picture client told) = None
asker_of (events.Gone client) = None

-- an event that is no request
abbrev pub AsksNothing : ClientEvent → Type 0
AsksNothing (events.Connect client) = Unit {0}
AsksNothing (events.Request client request) = ⊥
AsksNothing (events.Seeking client request) = ⊥
AsksNothing (events.Picture client told) = Unit {0}
AsksNothing (events.Gone client) = Unit {0}

-- these requests of a client, as events
abbrev pub asked_by : ℕ → List Request → List ClientEvent
asked_by c requests = map (λ r. events.Request c r) requests
