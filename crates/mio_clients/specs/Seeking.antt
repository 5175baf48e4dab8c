-- Requests that wait for a picture.
use Rattle.std.specs.Prelude.{◌≡◌, ℕ, ◌==◌, nat_eq, codes, List, [], ◌∷◌, ◌++◌, Bool, true, false, ◌||◌, if◌then◌else◌}
use Rattle.std.specs.List.{list_any, starts_with, AllByRecursion}
use Rattle.command_text.specs.declared.request.Request.{Request}
use Rattle.command_text.specs.declared.request.Request.TheVariants.{Single, OkList, Noidle}
use Rattle.command_text.specs.declared.request.Request.TheVariants as requests
use Rattle.mio_clients.specs.declared.event.ClientEvent.{ClientEvent}
use Rattle.mio_clients.specs.declared.event.ClientEvent.TheVariants as events
use Rattle.mio_clients.specs.Events.{asked_in}

-- a byte that may stand in front of the first word of a line
abbrev pub is_before_word : ℕ → Bool
is_before_word b = (b == 32) || (b == 9) || (b == 34)

-- a line from its first word on
abbrev pub first_word_on : List ℕ → List ℕ
first_word_on [] = []
first_word_on (b ∷ line) = if is_before_word b then first_word_on line else b ∷ line

-- A line may ask for a picture: its first word begins as one of the two commands that do.
abbrev pub line_may_ask : List ℕ → Bool
line_may_ask line =
    starts_with nat_eq (first_word_on line) (codes "albumart") || starts_with nat_eq (first_word_on line) (codes "readpicture")

-- a request may: one of its lines
abbrev pub may_ask : Request → Bool
may_ask (Single line) = line_may_ask line
may_ask (requests.List lines) = list_any line_may_ask lines
may_ask (OkList lines) = list_any line_may_ask lines
may_ask Noidle = false

-- the first of a client's requests that wait may ask for a picture
abbrev pub IsLed : List Request → Type 0
IsLed [] = Unit {0}
IsLed (request ∷ rest) = may_ask request ≡ true

-- whether a client is one of these
abbrev pub is_held : ℕ → List ℕ → Bool
is_held c held = list_any (λ other. other == c) held

-- these with a client, once
abbrev pub held_with : ℕ → List ℕ → List ℕ
held_with c held = if is_held c held then held else held ++ c ∷ []

-- a request that waits
abbrev pub IsSeeking : ClientEvent → Type 0
IsSeeking (events.Connect client) = ⊥
IsSeeking (events.Request client request) = ⊥
IsSeeking (events.Seeking client request) = Unit {0}
IsSeeking (events.Picture client told) = ⊥
IsSeeking (events.Gone client) = ⊥

-- anything else
abbrev pub IsUnsought : ClientEvent → Type 0
IsUnsought (events.Connect client) = Unit {0}
IsUnsought (events.Request client request) = Unit {0}
IsUnsought (events.Seeking client request) = ⊥
IsUnsought (events.Picture client told) = Unit {0}
IsUnsought (events.Gone client) = Unit {0}

-- The requests that wait stand behind all other events, and of each client that waits the first may ask for a picture.
pub record IsSortedOut (all : List ClientEvent) : Type 0 where
  pub front : List ClientEvent
  pub behind : List ClientEvent
  pub whole : all ≡ front ++ behind
  pub served : AllByRecursion IsUnsought front
  pub seeking : AllByRecursion IsSeeking behind
  pub led : (c : ℕ) → IsLed (asked_in c behind)

-- what the client of this number asks for by an event, and waits for
abbrev pub sought_by_event : ℕ → ClientEvent → List Request
sought_by_event c (events.Connect client) = []
sought_by_event c (events.Request client request) = []
sought_by_event c (events.Seeking client request) = if client == c then request ∷ [] else []
sought_by_event c (events.Picture client told) = []
sought_by_event c (events.Gone client) = []

-- the requests of a client that wait for a picture, in order
abbrev pub sought_in : ℕ → List ClientEvent → List Request
sought_in c [] = []
sought_in c (event ∷ rest) = sought_by_event c event ++ sought_in c rest
