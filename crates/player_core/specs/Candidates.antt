-- What the search for the least entry compares.
use Rattle.std.specs.Prelude.{ℕ, Bool, true, ◌||◌, List, filter, Option, Some, None}
use Rattle.play_queue.specs.declared.entry.Entry.{Entry}
use Rattle.player_core.specs.RandomOrder.{Drawn, goes_before}
use Rattle.player_core.specs.Choice.{is_left}

-- all entries count in a new round, else those that are left
abbrev pub is_counted : Bool → ℕ → List ℕ → Entry → Bool
is_counted is_new current played entry = is_new || is_left current played entry

abbrev pub counted : Bool → ℕ → List ℕ → List Entry → List Entry
counted is_new current played entries = filter (is_counted is_new current played) entries

-- whether it goes before the best so far
abbrev pub is_first : Drawn → Option Drawn → Bool
is_first drawn None = true
is_first drawn (Some other) = goes_before drawn other
