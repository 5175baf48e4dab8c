-- Nobody is kept waiting for what is pending for it.
use Rattle.std.specs.Prelude.{◌≡◌, Bool, List, None}
use Rattle.std.specs.List.{list_all, AllByRecursion}
use Rattle.idle_masks.specs.Subsystems.{is_empty}
use Rattle.idle_masks.specs.Watched.{due}
use Rattle.idle_masks.specs.declared.watch.Watched.{Watched}
use Rattle.daemon_core.specs.Pending.{Moment}
use Rattle.daemon_core.specs.Replay.{told_waiting}

-- no client waits for what is kept as pending for it
abbrev pub is_quiet : List Watched → Bool
is_quiet clients = list_all (λ w. is_empty (due w)) clients

-- no client waits for what is pending for it by the history
abbrev pub NobodyIsDue : List Moment → List Watched → Type 0
NobodyIsDue moments clients = AllByRecursion (λ w. told_waiting moments w.client w.waiting ≡ None) clients
