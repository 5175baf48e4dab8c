-- Which of the events that wait are no request that is to be served.
use Rattle.std.specs.Prelude.{◌≡◌, ℕ, zero, suc, List, [], ◌∷◌, Bool, true, false}
use Rattle.mio_clients.specs.declared.event.ClientEvent.{ClientEvent}
use Rattle.mio_clients.specs.declared.event.ClientEvent.TheVariants as events

-- an event that asks for nothing, or a request that waits for a picture, where any may
abbrev pub IsQuiet : Bool → ClientEvent → Type 0
IsQuiet waits (events.Connect client) = Unit {0}
IsQuiet waits (events.Request client request) = ⊥
IsQuiet waits (events.Seeking client request) = waits ≡ true
IsQuiet waits (events.Picture client told) = Unit {0}
IsQuiet waits (events.Gone client) = Unit {0}

-- whether it is a request that waits for nothing
abbrev pub is_to_serve : ClientEvent → Bool
is_to_serve (events.Connect client) = false
is_to_serve (events.Request client request) = true
is_to_serve (events.Seeking client request) = false
is_to_serve (events.Picture client told) = false
is_to_serve (events.Gone client) = false

-- the events behind the first so many are of this kind
abbrev pub QuietBehind : Bool → ℕ → List ClientEvent → Type 0
QuietBehind waits n [] = Unit {0}
QuietBehind waits zero (event ∷ events) = IsQuiet waits event × QuietBehind waits zero events
QuietBehind waits (suc n) (event ∷ events) = QuietBehind waits n events

-- what was added, if anything, is of it
abbrev pub StaysQuiet : List ClientEvent → List ClientEvent → Type 0
StaysQuiet before after = (waits : Bool) (n : ℕ) → QuietBehind waits n before → QuietBehind waits n after

-- the first event was taken, and what was added is of it
abbrev pub TakesFirst : List ClientEvent → List ClientEvent → Type 0
TakesFirst before after = (waits : Bool) (n : ℕ) → QuietBehind waits (suc n) before → QuietBehind waits n after
