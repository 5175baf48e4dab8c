-- Which parts of a saved queue a builder refuses.
use Rattle.std.specs.Prelude.{ℕ, Bool, ◌+◌, ◌==◌, ◌||◌, nat_lt, nat_le, List, length, Option, Some, None, if◌then◌else◌}
use Rattle.std.specs.List.{list_any}
use Rattle.play_queue.specs.declared.entry.Entry.{Entry}
use Rattle.play_queue.specs.declared.refusal.PartError.{PartError}
use Rattle.play_queue.specs.declared.refusal.PartError.TheVariants.{BadVersion, BadNextId, BadId, BadStamp, QueueFull}
use Rattle.play_queue.specs.Limits.{MAX_ENTRIES, MAX_ID, MAX_VERSION}
use Rattle.play_queue.specs.Queue.{QueueState}

-- some entry has the id
abbrev pub has_id : List Entry → ℕ → Bool
has_id entries id = list_any (λ entry. entry.id == id) entries

-- the version, then the next id
abbrev pub begin_refusal : ℕ → ℕ → Option PartError
begin_refusal version next_id =
    if nat_lt version 1 || nat_lt MAX_VERSION version then Some BadVersion
    else if nat_lt next_id 1 || nat_lt (MAX_ID + 1) next_id then Some BadNextId
    else None

-- the number of entries, then the id, then the stamp
abbrev pub part_refusal : QueueState → Entry → Option PartError
part_refusal queue entry =
    if nat_le MAX_ENTRIES (length queue.entries) then Some QueueFull
    else if nat_lt entry.id 1 || (nat_le queue.next_id entry.id || has_id queue.entries entry.id) then Some BadId
    else if nat_lt entry.stamp 1 || nat_lt queue.version entry.stamp then Some BadStamp
    else None
