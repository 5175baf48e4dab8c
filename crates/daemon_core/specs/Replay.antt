-- The one history of events, and what it gives.
use Rattle.std.specs.Prelude.{ℕ, List, [], ◌∷◌, ◌++◌, map, Option, Some, None, if◌then◌else◌}
use Rattle.std.specs.List.{filter_map}
use Rattle.idle_masks.specs.declared.ready.Report.{Report}
use Rattle.idle_masks.specs.declared.subsystem.Subsystems.{Subsystems}
use Rattle.idle_masks.specs.Subsystems.{intersection, is_empty}
use Rattle.state_codec.specs.SavedState.{SavedState}
use Rattle.daemon_core.specs.declared.event.Event.{Event}
use Rattle.daemon_core.specs.declared.outcome.Output.{Output}
use Rattle.daemon_core.specs.State.{State, start}
use Rattle.daemon_core.specs.Pending.{Moment, pending_of}
use Rattle.daemon_core.specs.Session.{Acted}
use Rattle.daemon_core.specs.Step.{acted, Stepped, step, told_to}

-- an event, and the command at which memory was refused, if it was
pub record Entry : Type 0 where
  pub event : Event
  pub refused : Option ℕ

-- A history is a list of entries, the newest first.
abbrev pub stepped : State → Entry → Stepped
stepped s entry = step s entry.event entry.refused

-- the state after a history that began with what was kept
unfoldable pub replay : SavedState → List Entry → State
replay kept [] = start kept
replay kept (entry ∷ earlier) = let now = stepped (replay kept earlier) entry in now.after

-- what is reported to a client that waits, if something of its mask is pending for it
abbrev pub report_if : ℕ → Subsystems → Option Report
report_if c due = if is_empty due then None else Some (record { client = c; changed = due })

abbrev pub told_waiting : List Moment → ℕ → Option Subsystems → Option Report
told_waiting so_far c None = None
told_waiting so_far c (Some mask) = report_if c (intersection (pending_of so_far c) mask)

-- what an event did, before anybody was told
abbrev pub moment_of : Acted → Moment
moment_of a = record { connected = a.connected; changed = a.changed; notified = a.notified; reports = [] }

-- What the newest event of a history has told, by rising number: each client that waits for a subsystem which is pending for it by that
-- history.
abbrev pub reported_by : List Moment → Acted → List Report
reported_by earlier a = filter_map (λ w. told_waiting (moment_of a ∷ earlier) w.client w.waiting) a.after.clients

-- what each event did to pending subsystems: whom it told what, too, is that of the history
unfoldable pub moments : SavedState → List Entry → List Moment
moments kept [] = []
moments kept (entry ∷ earlier) =
    let a = acted (replay kept earlier) entry.event entry.refused in
    record (moment_of a) { reports = reported_by (moments kept earlier) a } ∷ moments kept earlier

-- What the newest event of a history gives out: its own client's answer, and then the lines of those that are told.
abbrev pub answered_and_told : List Moment → Acted → List Output
answered_and_told earlier a = a.answer ++ map told_to (reported_by earlier a)

unfoldable pub reply : SavedState → List Entry → Entry → List Output
reply kept earlier entry = answered_and_told (moments kept earlier) (acted (replay kept earlier) entry.event entry.refused)
