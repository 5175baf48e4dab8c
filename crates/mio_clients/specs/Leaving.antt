-- What clients that are let go of were given, and what of their requests is served.
use Rattle.std.specs.Prelude.{◌≡◌, ◌⊎◌, ℕ, ◌<◌, ◌≤◌, List, [], ◌∷◌, ◌++◌, length, get_or, Option, Some, true, IsSomeAnd}
use Rattle.std.specs.List.{concat, AllByRecursion}
use Rattle.std.specs.Io.KnownBytes.{Keeps, Consumes, append_known}
use Rattle.slab.specs.Slab.{get}
use Rattle.command_text.specs.declared.request.Request.{Request}
use Rattle.client_session.specs.Requests.{requests_in_pieces}
use Rattle.client_session.specs.Session.{fresh}
use Rattle.mio_clients.specs.declared.client.Client.{Client}
use Rattle.mio_clients.specs.Events.{asked_in}
use Rattle.mio_clients.specs.Given.{given}
use Rattle.mio_clients.specs.Connections.{ConnectionsState, IsVacant}
use Rattle.mio_clients.specs.Later.{AllGoOn, IsLater}

-- A client was let go of, and this is the last of it. What its stream took, and then bytes that it didn't take, is what the client had
-- been given before, and then these bytes. Its requests that were served, then those that wait, and then some that are not served, are
-- those that waited before, and then those of what was read of its stream.
pub record Leaves {S : Type 0} (remaining contents : S → Option (List ℕ)) (bytes : List ℕ) (served before after : List Request)
    (old last : Client S) : Type 0 where
  pub same : last.id ≡ old.id
  pub untaken : List ℕ
  pub took : Keeps (append_known (given contents old) bytes) (append_known (contents last.stream) untaken)
  pub pieces : List (List ℕ)
  pub taken : Consumes (remaining old.stream) (remaining last.stream) (concat pieces)
  pub closing : old.is_closing ≡ true → pieces ≡ []
  pub unserved : List Request
  pub asked : served ++ (after ++ unserved) ≡ before ++ requests_in_pieces old.session.left pieces

-- It was connected already.
pub record LeavesKept {S : Type 0} (remaining contents : S → Option (List ℕ)) (bytes : List ℕ) (served : List Request)
    (old new : ConnectionsState S) (last : Client S) : Type 0 where
  pub key : ℕ
  pub before : Client S
  pub there : get old.clients key ≡ Some before
  pub leaves : Leaves remaining contents bytes served (asked_in last.id old.events) (asked_in last.id new.events) before last

-- It has connected in between.
pub record LeavesNew {S : Type 0} (remaining contents : S → Option (List ℕ)) (bytes : List ℕ) (served after : List Request) (last_id : ℕ)
    (last : Client S) : Type 0 where
  pub first : Client S
  pub later : last_id < first.id
  pub session : first.session ≡ fresh
  pub leaves : Leaves remaining contents bytes served [] after first last

-- One of those that were let go of: nobody has its number any more.
pub record IsLeft {S : Type 0} (remaining contents : S → Option (List ℕ)) (bytes : List ℕ) (served : List Request)
    (old new : ConnectionsState S) (last : Client S) : Type 0 where
  pub vacant : IsVacant new last.id
  pub known : last.id ≤ new.last_id
  pub leaves : LeavesKept remaining contents bytes served old new last
      ⊎ LeavesNew remaining contents bytes served (asked_in last.id new.events) old.last_id last

-- a client of this number is one of these
abbrev pub IsAmong : {S : Type 0} → ℕ → List (Client S) → Type 0
IsAmong c [] = ⊥
IsAmong c (client ∷ clients) = (client.id ≡ c) ⊎ IsAmong c clients

-- These clients, as they were then, were let go of in between, and no other that was connected. Of a client that never was in between
-- no request is served but those that waited.
pub record AllLeave {S : Type 0} (remaining contents : S → Option (List ℕ)) (sent : ℕ → List ℕ) (served : ℕ → List Request)
    (old new : ConnectionsState S) (gone : List (Client S)) : Type 0 where
  pub each : AllByRecursion (λ last. IsLeft remaining contents (sent last.id) (served last.id) old new last) gone
  pub stay : (key : ℕ) (client : Client S) → get old.clients key ≡ Some client
      → IsSomeAnd (get new.clients key) (λ now. now.id ≡ client.id) ⊎ IsAmong client.id gone
  pub absent : (c : ℕ) → IsVacant old c → IsVacant new c → (IsAmong c gone → ⊥)
      → (unserved : List Request) × (served c ++ (asked_in c new.events ++ unserved) ≡ asked_in c old.events)

-- who has this number is connected, or nothing that it asked for waits
abbrev pub IsForgotten : {S : Type 0} → ℕ → ConnectionsState S → Type 0
IsForgotten c connections = IsVacant connections c → asked_in c connections.events ≡ []

-- at this place of these clients there is one of this number
abbrev pub IsLeftAt : {S : Type 0} → ℕ → ℕ → List (Client S) → Type 0
IsLeftAt {S} place id left = (place < length left) × ((d : Client S) → let there = get_or left place d in there.id ≡ id)

-- Clients go on or are let go of; none has connected.
pub record AllFollow {S : Type 0} (remaining contents : S → Option (List ℕ)) (sent : ℕ → List ℕ) (served : ℕ → List Request)
    (old new : ConnectionsState S) : Type 0 where
  pub later : AllGoOn remaining contents sent served old new
  pub gone : List (Client S)
  pub left : new.left ≡ old.left ++ gone
  pub leave : AllLeave remaining contents sent served old new gone

-- The same, where clients may have connected in between.
pub record IsFollowed {S : Type 0} (remaining contents : S → Option (List ℕ)) (sent : ℕ → List ℕ) (served : ℕ → List Request)
    (old new : ConnectionsState S) : Type 0 where
  pub later : IsLater remaining contents sent served old new
  pub gone : List (Client S)
  pub left : new.left ≡ old.left ++ gone
  pub leave : AllLeave remaining contents sent served old new gone
