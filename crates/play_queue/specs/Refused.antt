-- Which refusal a call of the queue answers.
use Rattle.std.specs.Prelude.{ℕ, Bool, ◌+◌, ◌-◌, ◌==◌, ◌||◌, nat_lt, nat_le, List, length, Option, Some, None, is_some}
use Rattle.std.specs.Prelude.{position, if◌then◌else◌}
use Rattle.std.specs.List.{list_any}
use Rattle.play_queue.specs.declared.entry.Entry.{Entry}
use Rattle.play_queue.specs.Limits.{MAX_ENTRIES, MAX_ID}
use Rattle.play_queue.specs.declared.refusal.QueueError.{QueueError}
use Rattle.play_queue.specs.declared.refusal.QueueError.TheVariants.{BadIndex, NoSuchSong, QueueFull, IdsSpent}
use Rattle.play_queue.specs.Queue.{QueueState}

-- the range ends before it begins, or past the end of the queue
abbrev pub range_refusal : List Entry → ℕ → ℕ → Option QueueError
range_refusal entries start end = if nat_lt end start || nat_lt (length entries) end then Some BadIndex else None

-- the range is bad, or the new place is past the end of the rest
abbrev pub move_refusal : List Entry → ℕ → ℕ → ℕ → Option QueueError
move_refusal entries start end to =
    if nat_lt end start || nat_lt (length entries) end then Some BadIndex
    else if nat_lt (length entries - (end - start)) to then Some BadIndex
    else None

-- a position is past the end
abbrev pub swap_refusal : List Entry → ℕ → ℕ → Option QueueError
swap_refusal entries one other = if nat_le (length entries) one || nat_le (length entries) other then Some BadIndex else None

-- the place, then the number of entries, then the ids
abbrev pub add_refusal : QueueState → ℕ → ℕ → Option QueueError
add_refusal queue at count =
    if nat_lt (length queue.entries) at then Some BadIndex
    else if nat_lt MAX_ENTRIES (length queue.entries + count) then Some QueueFull
    else if nat_lt (MAX_ID + 1) (queue.next_id + count) then Some IdsSpent
    else None

-- no entry has the id
abbrev pub id_refusal : List Entry → ℕ → Option QueueError
id_refusal entries id = if is_some (position (λ entry. entry.id == id) entries) then None else Some NoSuchSong

-- a range ends before it begins, or past the end of so many entries
abbrev pub has_bad : List (ℕ × ℕ) → ℕ → Bool
has_bad ranges length = list_any (λ range. nat_lt range.1 range.0 || nat_lt length range.1) ranges

-- some range is bad
abbrev pub ranges_refusal : List Entry → List (ℕ × ℕ) → Option QueueError
ranges_refusal entries ranges = if has_bad ranges (length entries) then Some BadIndex else None
