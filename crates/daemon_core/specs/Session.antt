-- The commands that speak of the client: how a request ends for it.
use Rattle.std.specs.Prelude.{ℕ, List, [], ◌∷◌, map, Bool, true, false, Option, Some, None}
use Rattle.client_messages.specs.Listeners.{left as forgotten}
use Rattle.client_messages.specs.declared.listener.Listener.{Listener}
use Rattle.idle_masks.specs.Subsystems.{none}
use Rattle.idle_masks.specs.Watched.{left, watched, with_waiting}
use Rattle.idle_masks.specs.declared.subsystem.Subsystems.{Subsystems}
use Rattle.idle_masks.specs.declared.watch.Watched.{Watched}
use Rattle.machine_core.specs.Front.{front_of}
use Rattle.machine_core.specs.Happening.{Happening}
use Rattle.state_codec.specs.declared.op.Op.{Op}
use Rattle.daemon_core.specs.declared.view.View.{View}
use Rattle.daemon_core.specs.Run.{Ran}
use Rattle.daemon_core.specs.Seen.{viewed, views_without}
use Rattle.daemon_core.specs.Pictures.{pictures_without, unpictured}
use Rattle.daemon_core.specs.State.{State, with_machine, with_clients, with_views, with_messages, with_pictures}
use Rattle.daemon_core.specs.declared.outcome.Ending.{Ending}
use Rattle.daemon_core.specs.declared.outcome.Ending.TheVariants.{Answered, Closed, Killed, Waits}
use Rattle.daemon_core.specs.declared.outcome.Output.{Output}

-- What an event does before clients that wait are told: the state, the answer of the event's own client, the clients
-- that are closed, the ops, the place of the command that was refused memory, if one was, how much the commands of a request looked at,
-- whether the daemon ends, the client that it connected, the subsystems that it changed, and the clients for which `message` is pending.
pub record Acted : Type 0 where
  pub after : State
  pub answer : List Output
  pub closes : List ℕ
  pub ops : List Op
  pub refused_at : Option ℕ
  pub looks : ℕ
  pub ended : Bool
  pub connected : Option ℕ
  pub changed : Subsystems
  pub notified : List ℕ

-- an event that does nothing
abbrev pub nothing : State → Acted
nothing s =
    record {
      after = s;
      answer = [];
      closes = [];
      ops = [];
      refused_at = None;
      looks = 0;
      ended = false;
      connected = None;
      changed = none;
      notified = [];
    }

-- an event of the player or of a scan did this
abbrev pub happened : State → Happening → Acted
happened s h = record (nothing (with_machine s h.after)) { ops = h.ops; changed = h.changed }

abbrev pub output : ℕ → List ℕ → Output
output c text = record { client = c; bytes = text }

-- the channels and the messages of a client are forgotten, where it was connected
abbrev pub messages_without : Option Watched → List Listener → ℕ → List Listener
messages_without None messages c = messages
messages_without (Some w) messages c = forgotten messages c

-- the client is connected no more
abbrev pub without : ℕ → State → State
without c s =
    with_pictures (with_messages (with_views (with_clients s (left s.clients c)) (views_without (watched s.clients c) s.views c))
    (messages_without (watched s.clients c) s.messages c)) (pictures_without (watched s.clients c) s.pictures c)

-- nobody is
abbrev pub without_all : State → State
without_all s = with_pictures (with_messages (with_views (with_clients s []) []) []) []

-- the client is told so
abbrev pub seeing : ℕ → View → State → State
seeing c view s = with_views s (viewed s.views c view)

-- the client waits for these subsystems, or no longer
abbrev pub waiting : ℕ → Option Subsystems → State → State
waiting c mask s = with_clients s (with_waiting s.clients c mask)

abbrev pub numbers_of : List Watched → List ℕ
numbers_of clients = map (λ w. w.client) clients

-- a request did this, and nothing was said to its client
abbrev pub ran_silently : State → Ran → Acted
ran_silently s r =
    record (nothing (with_machine s r.after)) {
      ops = r.ops;
      refused_at = r.refused_at;
      looks = r.looks;
      changed = r.changed;
      notified = r.notified;
    }

-- what the clients sent one another in a request
abbrev pub talked_in : Ran → State → State
talked_in r s = with_messages s r.messages

-- what was read for the client was for this request
abbrev pub untold : ℕ → State → State
untold c s = with_pictures s (unpictured s.pictures c)

-- What comes of a request of this client, by how it ended. Of an answer that is longer than any that is sent a front is given out. A client
-- that waits is answered where the changes are told.
abbrev pub of_ran : ℕ → State → Ran → Ending → Acted
of_ran c s r Answered =
    record (ran_silently (untold c (seeing c r.view (talked_in r s))) r) { answer = output c (front_of r.text) ∷ [] }
of_ran c s r Closed = record (ran_silently (without c (talked_in r s)) r) { closes = c ∷ [] }
of_ran c s r Killed = record (ran_silently (without_all s) r) { closes = numbers_of s.clients; ended = true }
of_ran c s r (Waits mask) = ran_silently (untold c (seeing c r.view (waiting c (Some mask) (talked_in r s)))) r

abbrev pub runs : ℕ → State → Ran → Acted
runs c s r = of_ran c s r r.ending
