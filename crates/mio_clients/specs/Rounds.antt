-- Whose requests are served first where some were left by the turn before.
use Rattle.std.specs.Prelude.{◌≡◌, ℕ, ◌≤◌, List, [], ◌++◌, length, Bool, true, false, not}
use Rattle.mio_clients.specs.declared.event.ClientEvent.{ClientEvent}
use Rattle.mio_clients.specs.declared.event.ClientEvent.TheVariants as events
use Rattle.mio_clients.specs.Events.{asked_in, has_request_of}

-- whether an event belongs to a round that has these: a connect, or a request of a client of which it has none
abbrev pub is_due : List ClientEvent → ClientEvent → Bool
is_due round (events.Connect client) = true
is_due round (events.Request client request) = not (has_request_of client round)
is_due round (events.Seeking client request) = not (has_request_of client round)
is_due round (events.Picture client told) = false
is_due round (events.Gone client) = false

-- Events are divided: a round has one request of each client that asks by any of them, its first, and the others are the rest.
pub record IsRound (whole round rest : List ClientEvent) : Type 0 where
  pub asked : (c : ℕ) → asked_in c whole ≡ asked_in c round ++ asked_in c rest
  pub one : (c : ℕ) → length (asked_in c round) ≤ 1
  pub each : (c : ℕ) → asked_in c round ≡ [] → asked_in c rest ≡ []

-- a round is put in front of the rest
pub record IsDealt (old new : List ClientEvent) : Type 0 where
  pub round : List ClientEvent
  pub rest : List ClientEvent
  pub front : new ≡ round ++ rest
  pub divided : IsRound old round rest
