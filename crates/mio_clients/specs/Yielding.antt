-- Which client gives way to another, and how clients are accepted.
use Rattle.std.specs.Prelude.{◌≡◌, ◌≢◌, ◌⊎◌, ℕ, ◌+◌, ◌^◌, ◌-◌, ◌<◌, ◌≤◌, List, [], ◌∷◌, length, Option, None, Some, Result, Ok, Err}
use Rattle.std.specs.Prelude.{Bool, true, false, not, ◌||◌, ◌&&◌, ◌==◌, nat_lt, if◌then◌else◌, MatchOption}
use Rattle.std.specs.Io.KnownBytes.{Keeps}
use Rattle.slab.specs.Slab.{get}
use Rattle.mio_clients.specs.declared.client.Client.{Client}
use Rattle.mio_clients.specs.declared.event.ClientEvent.{ClientEvent}
use Rattle.mio_clients.specs.declared.clients.Admission.{Admission}
use Rattle.mio_clients.specs.declared.clients.Admission.TheVariants.{Taken, Unwatched, Refused}
use Rattle.mio_clients.specs.Connections.{ConnectionsState, IsFull, IsAdmitted}
use Rattle.mio_clients.specs.Events.{has_request_of}
use Rattle.mio_clients.specs.declared.refusal.ClientsError.{ClientsError}
use Rattle.mio_clients.specs.declared.refusal.ClientsError.TheVariants.{NoMemory, NetFault, TooManyClients}
use Rattle.mio_clients.specs.Later.{Loses}

-- who gives way to a client where nobody does
abbrev pub nobody : {S : Type 0} → S → Bool
nobody stream = false

-- who may give way to a client: those of which this holds, or nobody
abbrev pub who_yields : {S : Type 0} → Bool → (S → Bool) → S → Bool
who_yields true remote = remote
who_yields false remote = nobody

-- for how many milliseconds a client keeps its place in silence: an hour
abbrev pub yield_after : ℕ
yield_after = 3600000

-- the same of one of which no request was served: ten seconds
abbrev pub yield_unserved_after : ℕ
yield_unserved_after = 10000

-- whether a client that is given these bytes still waits in idle
abbrev pub still_waits : {S : Type 0} → List ℕ → Client S → Bool
still_waits [] client = client.is_waiting
still_waits (byte ∷ bytes) client = false

-- when a client was active last that is given these bytes now
abbrev pub active_at : {S : Type 0} → ℕ → List ℕ → Client S → ℕ
active_at now [] client = client.last_active
active_at now (byte ∷ bytes) client = now

-- A client was read: it is active now, or nothing came of it.
abbrev pub IsHeard : {S : Type 0} → (S → Option (List ℕ)) → ℕ → Client S → Client S → Type 0
IsHeard remaining now old new =
    (new.last_active ≡ now) ⊎ ((new.last_active ≡ old.last_active) × Keeps (remaining old.stream) (remaining new.stream))

-- it waits in idle if it did, and a request of it was served if one was
abbrev pub StaysServed : {S : Type 0} → Client S → Client S → Type 0
StaysServed old new = (new.is_waiting ≡ old.is_waiting) × (new.was_served ≡ old.was_served)

-- The client at this key was read, if it was not let go of, and no request of it served; the others stay as they are.
pub record IsHeardAt {S : Type 0} (remaining : S → Option (List ℕ)) (key : ℕ) (old new : ConnectionsState S) : Type 0 where
  pub heard : (x y : Client S) → get old.clients key ≡ Some x → get new.clients key ≡ Some y → IsHeard remaining old.time x y
  pub served : (x y : Client S) → get old.clients key ≡ Some x → get new.clients key ≡ Some y → StaysServed x y
  pub others : (other : ℕ) → other ≢ key → get new.clients other ≡ get old.clients other

-- A request of the client of this number is served, and it waits until it is given something. All else stays as it is.
pub record NowWaits {S : Type 0} (id : ℕ) (old new : ConnectionsState S) : Type 0 where
  pub same : new ≡ record old { clients = new.clients }
  pub waits : (key : ℕ) (client : Client S) → get old.clients key ≡ Some client → client.id ≡ id
      → get new.clients key ≡ Some (record client { is_waiting = true; was_served = true })
  pub others : (key : ℕ) (client : Client S) → get old.clients key ≡ Some client → client.id ≢ id → get new.clients key ≡ Some client

-- the client of this number, if it was not let go of, was given these bytes; the others stay as they are
pub record WasGiven {S : Type 0} (id : ℕ) (bytes : List ℕ) (old new : ConnectionsState S) : Type 0 where
  pub given : (key : ℕ) (x y : Client S) → get old.clients key ≡ Some x → get new.clients key ≡ Some y → x.id ≡ id
      → y ≡ record x { session = y.session; is_waiting = still_waits bytes x; last_active = active_at old.time bytes x }
  pub others : (key : ℕ) (x : Client S) → get old.clients key ≡ Some x → x.id ≢ id → get new.clients key ≡ Some x

-- for how many milliseconds a client keeps its place in silence
abbrev pub keeps_for : {S : Type 0} → Client S → ℕ
keeps_for client = if client.was_served then yield_after else yield_unserved_after

-- whether a client waits in idle, was not sent all that it was given, or has a request that waits to be served
abbrev pub is_busy : {S : Type 0} → List ClientEvent → Client S → Bool
is_busy events client = client.is_waiting || nat_lt 0 (length client.session.queued) || has_request_of client.id events

-- whether a client is over: it is to be closed, was sent all that it was given, and no request of it waits
abbrev pub is_over : {S : Type 0} → List ClientEvent → Client S → Bool
is_over events client = client.is_closing && (length client.session.queued == 0) && not (has_request_of client.id events)

-- the client at this key is let go of only if it is over
abbrev pub OnlyIfOver : {S : Type 0} → ℕ → ConnectionsState S → ConnectionsState S → Type 0
OnlyIfOver key old new = MatchOption (get old.clients key) (new ≡ old) (λ client. is_over old.events client ≡ false → new ≡ old)

-- when something last came of a client or was given to it, where one that is busy is active now
abbrev pub active_until : {S : Type 0} → ConnectionsState S → Client S → ℕ
active_until connections client = if is_busy connections.events client then connections.time else client.last_active

-- until when a client keeps its place against one over a network
abbrev pub keeps_until : {S : Type 0} → ConnectionsState S → Client S → ℕ
keeps_until connections client = active_until connections client + keeps_for client

-- A client that may give way to another, which comes over a network or not: it came over one itself, and to one over a network it gives
-- way only where its time is over.
pub record MayYield {S : Type 0} (remote : S → Bool) (to_remote : Bool) (connections : ConnectionsState S)
    (client : Client S) : Type 0 where
  pub over_network : remote client.stream ≡ true
  pub over : to_remote ≡ true → keeps_until connections client ≤ connections.time

abbrev pub NoneYields : {S : Type 0} → (S → Bool) → Bool → ConnectionsState S → Type 0
NoneYields {S} remote to_remote connections = (key : ℕ) (client : Client S) → get connections.clients key ≡ Some client
    → MayYield remote to_remote connections client → ⊥

-- the client at this key may give way, and of none that may the time is over sooner
pub record IsFirstToYield {S : Type 0} (remote : S → Bool) (to_remote : Bool) (connections : ConnectionsState S) (key : ℕ) : Type 0 where
  pub client : Client S
  pub there : get connections.clients key ≡ Some client
  pub may : MayYield remote to_remote connections client
  pub first : (k : ℕ) (other : Client S) → get connections.clients k ≡ Some other → MayYield remote to_remote connections other
      → keeps_until connections client ≤ keeps_until connections other

-- the same of the keys below this
pub record IsFirstBelow {S : Type 0} (remote : S → Bool) (to_remote : Bool) (connections : ConnectionsState S)
    (below key : ℕ) : Type 0 where
  pub client : Client S
  pub there : get connections.clients key ≡ Some client
  pub may : MayYield remote to_remote connections client
  pub first : (k : ℕ) (other : Client S) → k < below → get connections.clients k ≡ Some other → MayYield remote to_remote connections other
      → keeps_until connections client ≤ keeps_until connections other

abbrev pub NoneBelow : {S : Type 0} → (S → Bool) → Bool → ConnectionsState S → ℕ → Type 0
NoneBelow {S} remote to_remote connections below = (key : ℕ) (client : Client S) → key < below → get connections.clients key ≡ Some client
    → MayYield remote to_remote connections client → ⊥

-- what was found of the keys below this
abbrev pub IsFoundBelow : {S : Type 0} → (S → Bool) → Bool → ConnectionsState S → ℕ → Option ℕ → Type 0
IsFoundBelow remote to_remote connections below None = NoneBelow remote to_remote connections below
IsFoundBelow remote to_remote connections below (Some key) = IsFirstBelow remote to_remote connections below key

abbrev pub IsFound : {S : Type 0} → (S → Bool) → Bool → ConnectionsState S → Option ℕ → Type 0
IsFound remote to_remote connections None = NoneYields remote to_remote connections
IsFound remote to_remote connections (Some key) = IsFirstToYield remote to_remote connections key

-- No further client may connect, and the one whose time is over first, of those that may, gives way to one that connects, which is taken in
-- as its stream is registered.
pub record Replaces {S : Type 0} (remote : S → Bool) (stream : S) (old new : ConnectionsState S) : Type 0 where
  pub full : IsFull old
  pub key : ℕ
  pub first : IsFirstToYield remote (remote stream) old key
  pub between : ConnectionsState S
  pub loses : Loses key old between
  pub registered : S
  pub admitted : IsAdmitted registered between new

-- Nobody gives way to this client: nobody may, or the numbers of clients are spent. To one over no network nobody may only where all came
-- over none.
abbrev pub NoneGivesWay : {S : Type 0} → (S → Bool) → S → ConnectionsState S → Type 0
NoneGivesWay remote stream connections = NoneYields remote (remote stream) connections ⊎ (connections.last_id ≡ 2 ^ 64 - 1)

-- What came of a client that connects: it was taken in, as its stream is registered, in the place of another where there are too many; or
-- it was closed, and nothing else was done: since its stream could not be watched, though there was a place or one gave way to it, or since
-- there was none and nobody did.
abbrev pub ComesTo : {S : Type 0} → (S → Bool) → S → Admission → ConnectionsState S → ConnectionsState S → Type 0
ComesTo {S} remote stream Taken old new =
    ((IsFull old → ⊥) × (registered : S) × IsAdmitted registered old new) ⊎ Replaces remote stream old new
ComesTo remote stream Unwatched old new = (IsFull old → NoneGivesWay remote stream old → ⊥) × (new ≡ old)
ComesTo remote stream Refused old new = IsFull old × NoneGivesWay remote stream old × (new ≡ old)

-- a client that connected: its stream, what came of it, and the clients right before that and behind it
pub record Arrival (S : Type 0) : Type 0 where
  pub stream : S
  pub came : Admission
  pub before : ConnectionsState S
  pub after : ConnectionsState S

-- room was made for one more, and nothing else was done
abbrev pub MakesRoom : {S : Type 0} → ConnectionsState S → ConnectionsState S → Type 0
MakesRoom old new = new ≡ record old { room = new.room; places = new.places }

-- These clients connected, one after the other.
abbrev pub AcceptsAll : {S : Type 0} → (S → Bool) → List (Arrival S) → ConnectionsState S → ConnectionsState S → Type 0
AcceptsAll remote [] old new = MakesRoom old new
AcceptsAll remote (one ∷ others) old new =
    MakesRoom old one.before × ComesTo remote one.stream one.came one.before one.after × AcceptsAll remote others one.after new

abbrev pub was_refused : Admission → Bool
was_refused Taken = false
was_refused Unwatched = false
was_refused Refused = true

-- whether one of these was closed since none gave way to it
abbrev pub has_refused : {S : Type 0} → List (Arrival S) → Bool
has_refused [] = false
has_refused (one ∷ others) = was_refused one.came || has_refused others

-- What is answered where one was closed so, or none: want of memory comes before either.
abbrev pub TellsOf : Result (Unit {0}) ClientsError → Bool → Type 0
TellsOf (Ok done) refused = refused ≡ false
TellsOf (Err NoMemory) refused = Unit {0}
TellsOf (Err TooManyClients) refused = refused ≡ true
TellsOf (Err (NetFault client)) refused = ⊥
