-- The clients that are connected.
use Rattle.std.specs.Prelude.{◌≡◌, ◌⊎◌, ℕ, ◌≢◌, ◌+◌, ◌-◌, ◌^◌, ◌/◌, ◌==◌, ◌<◌, ◌≤◌, not, List, [], ◌∷◌, ◌++◌, Option, Some, None, Bool, true, false, MatchOption, IsSomeAnd, if◌then◌else◌}
use Rattle.std.specs.List.{concat}
use Rattle.std.specs.Io.KnownBytes.{Keeps, Consumes, append_known}
use Rattle.slab.specs.Slab.{Slab, get, slab_len, Updates}
use Rattle.mio_clients.specs.declared.client.Client.{Client}
use Rattle.mio_clients.specs.declared.event.ClientEvent.{ClientEvent}
use Rattle.mio_clients.specs.declared.event.ClientEvent.TheVariants as events
use Rattle.client_session.specs.Session.{fresh}
use Rattle.mio_clients.specs.Events.{asked_in, asked_by}
use Rattle.mio_clients.specs.Given.{given, Moves}
use Rattle.client_session.specs.Requests.{requests_in_pieces, brought, left_by}
use Rattle.command_text.specs.declared.request.Request.{Request}

-- how many clients may be connected
abbrev pub client_limit : ℕ
client_limit = 100

-- events that wait, and for how many clients there is room for a last one
pub record QueueState : Type 0 where
  pub events : List ClientEvent
  pub spare : ℕ
  pub room : ℕ

-- The clients, each under the key by which it is told to be ready; what they did and was not served yet; the number of the client that
-- connected last; for how many further events there is room; the clients that were let go of since the last turn, as they were then; for
-- how many further ones there is a place; those that were let go of in that turn; the time of the turn, in milliseconds; and the second of
-- that time in which a clock was asked last in this life of the daemon, if one was.
pub record ConnectionsState (S : Type 0) : Type 0 where
  pub clients : Slab (Client S)
  pub events : List ClientEvent
  pub last_id : ℕ
  pub room : ℕ
  pub left : List (Client S)
  pub places : ℕ
  pub gone : List (Client S)
  pub time : ℕ
  pub clock_second : Option ℕ

-- the second of a time in milliseconds
abbrev pub second_of : ℕ → ℕ
second_of time = time / 1000

abbrev pub is_other_second : Option ℕ → ℕ → Bool
is_other_second None second = true
is_other_second (Some before) second = not (before == second)

-- a clock is to be asked: none was in the second of the turn
abbrev pub is_clock_due : {S : Type 0} → ConnectionsState S → Bool
is_clock_due connections = is_other_second connections.clock_second (second_of connections.time)

-- a clock was asked in it
abbrev pub with_clock_asked : {S : Type 0} → ConnectionsState S → ConnectionsState S
with_clock_asked connections = record connections { clock_second = Some (second_of connections.time) }

-- what holds of all connections: there is room for the last event of each client, and a place for it where it is let go of
pub record AreConnections {S : Type 0} (clients : Slab (Client S)) (queue : QueueState) (last_id free : ℕ) : Type 0 where
  pub spare : queue.spare ≡ slab_len clients
  pub places : slab_len clients ≤ free
  pub slots : client_limit ≤ clients.capacity
  pub few : slab_len clients ≤ client_limit
  -- no two clients have one number
  pub distinct : (a b : ℕ) (x y : Client S) → get clients a ≡ Some x → get clients b ≡ Some y → x.id ≡ y.id → a ≡ b
  -- a session that was refused is let go of at once
  pub unrefused : (key : ℕ) (client : Client S) → get clients key ≡ Some client → client.session.closed ≡ None
  pub known : (key : ℕ) (client : Client S) → get clients key ≡ Some client → client.id ≤ last_id
  -- nothing waits of a client that has not connected yet
  pub none_later : (c : ℕ) → last_id < c → asked_in c queue.events ≡ []

-- Pieces of the client's stream were read, and then memory was refused: of the requests that they bring, the first were added to the
-- events that wait.
pub record ReadsInPart {S : Type 0} (remaining contents : S → Option (List ℕ)) (old new : Client S)
    (before after : List ClientEvent) : Type 0 where
  pub same : new.id ≡ old.id
  pub untaken : List ℕ
  pub unwritten : Keeps (append_known (given contents old) []) (append_known (contents new.stream) untaken)
  pub goes_on : old.is_closing ≡ false
  pub pieces : List (List ℕ)
  pub taken : Consumes (remaining old.stream) (remaining new.stream) (concat pieces)
  pub requests : List Request
  pub lost : List Request
  pub whole : requests ++ lost ≡ requests_in_pieces old.session.left pieces
  pub added : after ≡ before ++ asked_by old.id requests

-- pieces of the client's stream were read, and their requests were added to the events that wait
pub record Reads {S : Type 0} (remaining contents : S → Option (List ℕ)) (old new : Client S) (before after : List ClientEvent) : Type 0 where
  pub pieces : List (List ℕ)
  pub moves : Moves remaining contents [] pieces old new
  pub added : after ≡ before ++ asked_by old.id (requests_in_pieces old.session.left pieces)

-- more may be read of a client: nothing is queued for it, and it is not to be closed
pub record IsReading {S : Type 0} (client : Client S) : Type 0 where
  pub sent : client.session.queued ≡ []
  pub unrefused : client.session.closed ≡ None
  pub goes_on : client.is_closing ≡ false

-- A piece was taken, and the requests that it brings were added to the events that wait; or it has a line or a list that is too long,
-- so that the client is to be closed.
pub record IsTaken {S : Type 0} (piece : List ℕ) (old new : Client S) (before after : List ClientEvent) : Type 0 where
  pub queued : new.session.queued ≡ old.session.queued
  pub unrefused : new.session.closed ≡ old.session.closed
  pub left : (new.is_closing ≡ true) ⊎ (new.session.left ≡ left_by old.session.left piece)
  pub added : after ≡ before ++ asked_by old.id (brought old.session.left piece)

-- no client has this number
abbrev pub IsVacant : {S : Type 0} → ConnectionsState S → ℕ → Type 0
IsVacant {S} connections id = (key : ℕ) (client : Client S) → get connections.clients key ≡ Some client → client.id ≢ id

-- the client of this number is at this key
abbrev pub IsAt : {S : Type 0} → ConnectionsState S → ℕ → ℕ → Type 0
IsAt connections id key = IsSomeAnd (get connections.clients key) (λ client. client.id ≡ id)

-- no client at another key has this number
abbrev pub IsAlone : {S : Type 0} → ConnectionsState S → ℕ → ℕ → Type 0
IsAlone {S} connections id key = (k : ℕ) (client : Client S) → get connections.clients k ≡ Some client → client.id ≡ id → k ≡ key

-- no further client may connect
abbrev pub IsFull : {S : Type 0} → ConnectionsState S → Type 0
IsFull connections = (client_limit ≤ slab_len connections.clients) ⊎ (connections.last_id ≡ 2 ^ 64 - 1)

-- a client that has just connected: it is not to be closed, its end will be told, it waits for nothing, and no request of it was served
pub record HasBegun {S : Type 0} (client : Client S) : Type 0 where
  pub unblocked : client.is_blocked ≡ false
  pub goes_on : client.is_closing ≡ false
  pub unreleased : client.is_released ≡ false
  pub waits_not : client.is_waiting ≡ false
  pub unserved : client.was_served ≡ false

-- a client was taken in with this stream, of which nothing was read, and gathered with its connect; the others stay
pub record IsAdmitted {S : Type 0} (stream : S) (old new : ConnectionsState S) : Type 0 where
  pub key : ℕ
  pub client : Client S
  pub vacant : get old.clients key ≡ None
  pub there : Updates old.clients new.clients key (Some client)
  pub number : client.id ≡ old.last_id + 1
  pub last_id : new.last_id ≡ old.last_id + 1
  pub time : new.time ≡ old.time
  pub accepted : client.stream ≡ stream
  pub session : client.session ≡ fresh
  pub active : client.last_active ≡ old.time
  pub begins : HasBegun client
  pub gathered : new.events ≡ old.events ++ events.Connect (old.last_id + 1) ∷ []

-- nothing has changed but what stands at this key
pub record IsSameElsewhere {S : Type 0} (key : ℕ) (old new : Slab (Client S)) : Type 0 where
  pub others : (other : ℕ) → other ≢ key → get new other ≡ get old other
  pub len : slab_len new ≡ slab_len old
  pub capacity : new.capacity ≡ old.capacity

-- the client at this key, if there is one, became another, of which this holds
abbrev pub IsMovedAt : {S : Type 0} → (Client S → Client S → Type 0) → ℕ → Slab (Client S) → Slab (Client S) → Type 0
IsMovedAt P key old new = MatchOption (get old key) (get new key ≡ None) (λ x. IsSomeAnd (get new key) (λ y. P x y))

-- the client at this key was read, and its requests were added to the events that wait
abbrev pub IsReadAt : {S : Type 0} → (S → Option (List ℕ)) → (S → Option (List ℕ)) → ℕ → Slab (Client S) → Slab (Client S)
    → List ClientEvent → List ClientEvent → Type 0
IsReadAt remaining contents key old new before after = IsMovedAt (λ x y. Reads remaining contents x y before after) key old new

-- The client at this key was written or read, and its stream has failed; the others stay.
pub record IsFailedAt {S : Type 0} (remaining contents : S → Option (List ℕ)) (failed : S → Bool) (key : ℕ)
    (old new : ConnectionsState S) : Type 0 where
  pub before : Client S
  pub there : get old.clients key ≡ Some before
  pub last : Client S
  pub stands : get new.clients key ≡ Some last
  pub reads : Reads remaining contents before last old.events new.events
  pub faulty : failed last.stream ≡ true
  pub others : (other : ℕ) → other ≢ key → get new.clients other ≡ get old.clients other

-- the last event of a client is gathered, unless the daemon has closed it itself
abbrev pub IsToldGone : {S : Type 0} → Option (Client S) → List ClientEvent → List ClientEvent → Type 0
IsToldGone None before after = after ≡ before
IsToldGone (Some client) before after = after ≡ (if client.is_released then before else before ++ events.Gone client.id ∷ [])
