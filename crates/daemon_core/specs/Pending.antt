-- What is pending for a client, told from what happened so far.
use Rattle.std.specs.Prelude.{ℕ, Bool, false, ◌&&◌, ◌==◌, List, [], ◌∷◌, Option, Some, None, map, if◌then◌else◌}
use Rattle.std.specs.List.{list_any}
use Rattle.idle_masks.specs.declared.subsystem.Subsystem.{Subsystem}
use Rattle.idle_masks.specs.declared.subsystem.Subsystem.TheVariants.{Message}
use Rattle.idle_masks.specs.declared.subsystem.Subsystems.{Subsystems}
use Rattle.idle_masks.specs.declared.ready.Report.{Report}
use Rattle.idle_masks.specs.declared.watch.Watched.{Watched}
use Rattle.idle_masks.specs.Subsystems.{contains, only, set_of, union}
use Rattle.idle_masks.specs.Watched.{grown, nat_among}

-- What an event makes pending for a client: what it changed, and `message` where the client is one of those that were notified.
abbrev pub news : Subsystems → List ℕ → ℕ → Subsystems
news changed notified c = if nat_among c notified then union changed (only Message) else changed

-- for each client that is pending too
abbrev pub with_news : Subsystems → List ℕ → List Watched → List Watched
with_news changed notified clients = map (λ w. grown (news changed notified w.client) w) clients

-- What an event did that pending subsystems depend on: the client that it connected, which wasn't connected before,
-- the subsystems that it changed, the clients that were notified of a message, and what its outputs reported to waiting clients.
pub record Moment : Type 0 where
  pub connected : Option ℕ
  pub changed : Subsystems
  pub notified : List ℕ
  pub reports : List Report

-- the moment connected this client
abbrev pub connects : ℕ → Moment → Bool
connects c m = elim m.connected [ None ↦ false | Some d ↦ d == c ]

-- an output to this client reported the subsystem
abbrev pub reports_to : ℕ → Subsystem → Moment → Bool
reports_to c x m = list_any (λ r. (r.client == c) && contains r.changed x) m.reports

-- the moment made the subsystem pending for this client
abbrev pub touches : ℕ → Subsystem → Moment → Bool
touches c x m = contains (news m.changed m.notified c) x

-- the newest moments, up to the first that passes the test
abbrev pub since : (Moment → Bool) → List Moment → List Moment
since test [] = []
since test (m ∷ earlier) = if test m then [] else m ∷ since test earlier

-- Some event made the subsystem pending for the client, after the client's latest connect, and no output to the client, at that event
-- or later, has reported it. The moments stand newest first.
abbrev pub is_pending : List Moment → ℕ → Subsystem → Bool
is_pending moments c x = list_any (touches c x) (since (reports_to c x) (since (connects c) moments))

abbrev pub pending_of : List Moment → ℕ → Subsystems
pending_of moments c = set_of (is_pending moments c)
