-- Whether an edit that isn't refused changes something at some position.
use Rattle.std.specs.Prelude.{◌≡◌, ℕ, Bool, not, List, [], swap, None}
use Rattle.play_queue.specs.declared.entry.Entry.{Entry}
use Rattle.play_queue.specs.Entries.{moved, prioritized}
use Rattle.play_queue.specs.Queue.{is_unchanged}
use Rattle.play_queue.specs.Refused.{move_refusal, swap_refusal, ranges_refusal}

-- this tells it of a move
abbrev pub TellsMove : List Entry → ℕ → ℕ → ℕ → Bool → Type 0
TellsMove entries start end to tells =
    move_refusal entries start end to ≡ None → tells ≡ not (is_unchanged [] entries (moved entries start end to))

-- of a swap
abbrev pub TellsSwap : List Entry → ℕ → ℕ → Bool → Type 0
TellsSwap entries one other tells =
    swap_refusal entries one other ≡ None → tells ≡ not (is_unchanged [] entries (swap entries one other))

-- of a priority
abbrev pub TellsPriority : List Entry → List (ℕ × ℕ) → ℕ → Bool → Type 0
TellsPriority entries ranges priority tells =
    ranges_refusal entries ranges ≡ None → tells ≡ not (is_unchanged [] entries (prioritized entries ranges priority))
