-- The watched clients, a list by rising number, and what each call makes of it.
use Rattle.std.specs.Prelude.{◌≡◌, ℕ, ◌<◌, ◌≤◌, length, slice_index_or, nat_lt, Bool, not, ◌==◌, List, ◌∷◌, ◌++◌, Option, Some, None, filter, map}
use Rattle.std.specs.Prelude.{find, unwrap_or, if◌then◌else◌}
use Rattle.std.specs.List.{filter_map, list_any, AllPairs}
use Rattle.idle_masks.specs.declared.subsystem.Subsystems.{Subsystems}
use Rattle.idle_masks.specs.declared.watch.Watched.{Watched}
use Rattle.idle_masks.specs.declared.ready.Report.{Report}
use Rattle.idle_masks.specs.Subsystems.{none, union, intersection, difference, is_empty}

-- a client that has just joined
abbrev pub newcomer : ℕ → Watched
newcomer c = record { client = c; pending = none; waiting = None }

-- the number of the client at place i
abbrev pub client_at : List Watched → ℕ → ℕ
client_at ws i = let w = slice_index_or ws i (newcomer 0) in w.client

-- each client's number is below the later ones
abbrev pub IsRising : List Watched → Type 0
IsRising = AllPairs (λ v w. v.client < w.client)

-- the client at place i has the number
pub record IsAt (ws : List Watched) (c i : ℕ) : Type 0 where
  pub in_range : i < length ws
  pub has_number : client_at ws i ≡ c

-- the client would go at place i: smaller numbers before it, and greater ones from it on
pub record IsGapFor (ws : List Watched) (c i : ℕ) : Type 0 where
  pub in_range : i ≤ length ws
  pub smaller_before : (j : ℕ) → j < i → client_at ws j < c
  pub greater_after : (j : ℕ) → i ≤ j → j < length ws → c < client_at ws j

-- what is kept for a client, if it is watched
abbrev pub watched : List Watched → ℕ → Option Watched
watched ws c = find (λ w. w.client == c) ws

-- the client starts afresh, in its place by number
abbrev pub joined : List Watched → ℕ → List Watched
joined ws c = filter (λ w. nat_lt w.client c) ws ++ newcomer c ∷ filter (λ w. nat_lt c w.client) ws

-- the others
abbrev pub left : List Watched → ℕ → List Watched
left ws c = filter (λ w. not (w.client == c)) ws

-- the number is one of these
abbrev pub nat_among : ℕ → List ℕ → Bool
nat_among c clients = list_any (λ d. d == c) clients

-- the client with the subsystems pending too
abbrev pub grown : Subsystems → Watched → Watched
grown changed w = record w { pending = union w.pending changed }

-- the subsystems are pending for every client
abbrev pub marked : List Watched → Subsystems → List Watched
marked ws changed = map (grown changed) ws

-- the client with the subsystems pending too, if it is one of these
abbrev pub grown_among : List ℕ → Subsystems → Watched → Watched
grown_among clients changed w = if nat_among w.client clients then grown changed w else w

-- the subsystems are pending for these clients too
abbrev pub marked_some : List Watched → List ℕ → Subsystems → List Watched
marked_some ws clients changed = map (grown_among clients changed) ws

-- the client waiting for these subsystems, or not waiting, if its number is c
abbrev pub told_to_wait : ℕ → Option Subsystems → Watched → Watched
told_to_wait c mask w = if w.client == c then record w { waiting = mask } else w

-- so for every client
abbrev pub with_waiting : List Watched → ℕ → Option Subsystems → List Watched
with_waiting ws c mask = map (told_to_wait c mask) ws

-- what is pending of the subsystems for which a client waits
abbrev pub due : Watched → Subsystems
due w = intersection w.pending (unwrap_or w.waiting none)

-- what is to be reported to a client, if anything is
abbrev pub report_of : Watched → Option Report
report_of w = if is_empty (due w) then None else Some (record { client = w.client; changed = due w })

-- the client after that report: what was reported isn't pending any more, and it waits no longer
abbrev pub reported : Watched → Watched
reported w = if is_empty (due w) then w else record w { pending = difference w.pending (due w); waiting = None }

-- the reports to all clients, by rising number
abbrev pub reports_of : List Watched → List Report
reports_of ws = filter_map report_of ws

-- each report is to a client whose number is below those of the later ones
abbrev pub AreRising : List Report → Type 0
AreRising = AllPairs (λ r s. r.client < s.client)

-- the clients after these reports
abbrev pub after_reports : List Watched → List Watched
after_reports ws = map reported ws
