-- What clients are given, and what of their requests is served, from one moment to another.
use Rattle.std.specs.Prelude.{◌≡◌, ◌≢◌, ◌⊎◌, ℕ, ◌+◌, ◌<◌, ◌≤◌, ◌==◌, List, [], ◌++◌, Option, Some, None, Bool, if◌then◌else◌}
use Rattle.slab.specs.Slab.{get}
use Rattle.command_text.specs.declared.request.Request.{Request}
use Rattle.client_session.specs.Requests.{requests_in_pieces}
use Rattle.client_session.specs.Session.{fresh}
use Rattle.mio_clients.specs.declared.client.Client.{Client}
use Rattle.mio_clients.specs.declared.refusal.ClientsError.{ClientsError}
use Rattle.mio_clients.specs.declared.refusal.ClientsError.TheVariants.{NetFault}
use Rattle.mio_clients.specs.Events.{asked_in}
use Rattle.mio_clients.specs.Given.{Moves}
use Rattle.mio_clients.specs.Connections.{ConnectionsState, IsToldGone, IsFailedAt}

-- A client was given these bytes. Its requests that were served, and then those that wait, are those that waited before, and then
-- those of what was read of its stream.
pub record GoesOn {S : Type 0} (remaining contents : S → Option (List ℕ)) (bytes : List ℕ) (served before after : List Request)
    (old new : Client S) : Type 0 where
  pub pieces : List (List ℕ)
  pub moves : Moves remaining contents bytes pieces old new
  pub asked : served ++ after ≡ before ++ requests_in_pieces old.session.left pieces

-- The client has connected in between: at first it had a stream of which nothing had been read, and a fresh session.
pub record IsNew {S : Type 0} (remaining contents : S → Option (List ℕ)) (bytes : List ℕ) (served after : List Request) (last_id : ℕ)
    (new : Client S) : Type 0 where
  pub first : Client S
  pub later : last_id < first.id
  pub session : first.session ≡ fresh
  pub goes_on : GoesOn remaining contents bytes served [] after first new

-- The client was connected already.
pub record IsKept {S : Type 0} (remaining contents : S → Option (List ℕ)) (bytes : List ℕ) (served : List Request) (old new : ConnectionsState S)
    (key : ℕ) (client : Client S) : Type 0 where
  pub before : Client S
  pub there : get old.clients key ≡ Some before
  pub goes_on : GoesOn remaining contents bytes served (asked_in client.id old.events) (asked_in client.id new.events) before client

-- Each client that is connected in the end was connected before: these bytes were given to it in between, and these of its requests were
-- served.
pub record AllGoOn {S : Type 0} (remaining contents : S → Option (List ℕ)) (sent : ℕ → List ℕ) (served : ℕ → List Request)
    (old new : ConnectionsState S) : Type 0 where
  pub last_id : new.last_id ≡ old.last_id
  pub each : (key : ℕ) (client : Client S) → get new.clients key ≡ Some client
      → IsKept remaining contents (sent client.id) (served client.id) old new key client

-- The same, where clients may have connected in between. Of each client that is connected in the end: these bytes were given to it in between, and these of its requests were served.
pub record IsLater {S : Type 0} (remaining contents : S → Option (List ℕ)) (sent : ℕ → List ℕ) (served : ℕ → List Request)
    (old new : ConnectionsState S) : Type 0 where
  pub last_id : old.last_id ≤ new.last_id
  pub each : (key : ℕ) (client : Client S) → get new.clients key ≡ Some client
      → IsKept remaining contents (sent client.id) (served client.id) old new key client
      ⊎ IsNew remaining contents (sent client.id) (served client.id) (asked_in client.id new.events) old.last_id client

-- nothing, to any client
abbrev pub no_bytes : ℕ → List ℕ
no_bytes c = []

abbrev pub no_requests : ℕ → List Request
no_requests c = []

-- these bytes, to this client alone
abbrev pub bytes_for : ℕ → List ℕ → ℕ → List ℕ
bytes_for client bytes c = if client == c then bytes else []

-- The client at this key, if there is one, was let go of, and its last event gathered or not; the others stay as they are.
pub record Loses {S : Type 0} (key : ℕ) (old new : ConnectionsState S) : Type 0 where
  pub gone : get new.clients key ≡ None
  pub others : (other : ℕ) → other ≢ key → get new.clients other ≡ get old.clients other
  pub last_id : new.last_id ≡ old.last_id
  pub time : new.time ≡ old.time
  pub told : IsToldGone (get old.clients key) old.events new.events

-- The stream of the client at this key has failed, and the client was let go of, as the error says; the others stay as they are.
pub record IsFault {S : Type 0} (remaining contents : S → Option (List ℕ)) (failed : S → Bool) (key : ℕ) (error : ClientsError)
    (old new : ConnectionsState S) : Type 0 where
  pub between : ConnectionsState S
  pub fails : IsFailedAt remaining contents failed key old between
  pub number : error ≡ NetFault fails.last.id
  pub loses : Loses key between new
