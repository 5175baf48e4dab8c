-- Who is connected before an event and after it.
use Rattle.std.specs.Prelude.{◌≡◌, ◌⊎◌, ℕ, Bool, not, ◌==◌, List, [], ◌∷◌, filter, Option, Some, None}
use Rattle.std.specs.List.{list_any}
use Rattle.idle_masks.specs.Watched.{watched, joined, left}
use Rattle.idle_masks.specs.declared.watch.Watched.{Watched}
use Rattle.daemon_core.specs.declared.event.Event.{Event}
use Rattle.daemon_core.specs.declared.event.Event.TheVariants as events

-- the number is one of these
abbrev pub is_one_of : List ℕ → ℕ → Bool
is_one_of numbers c = list_any (λ d. c == d) numbers

-- those of the first list that the second has not
abbrev pub missing : List ℕ → List ℕ → List ℕ
missing numbers others = filter (λ c. not (is_one_of others c)) numbers

-- the clients from before that have not gone by themselves
abbrev pub still_there : Event → List Watched → List Watched
still_there (events.Gone c) clients = left clients c
still_there event clients = clients

abbrev pub with_newcomer : ℕ → List Watched → Option Watched → List Watched
with_newcomer c clients None = joined clients c
with_newcomer c clients (Some w) = clients

-- and with the one that has come
abbrev pub there : Event → List Watched → List Watched
there (events.Connect c) clients = with_newcomer c clients (watched clients c)
there (events.Gone c) clients = left clients c
there event clients = clients

-- an event closes nobody but the client that asks
abbrev pub ClosesNoOther : Event → List ℕ → Type 0
ClosesNoOther (events.Request c request) closes = (closes ≡ []) ⊎ (closes ≡ c ∷ [])
ClosesNoOther event closes = closes ≡ []
