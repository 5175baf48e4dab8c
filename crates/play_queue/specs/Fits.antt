-- What a call of the queue that isn't refused can rely on.
use Rattle.std.specs.Prelude.{ℕ, ◌+◌, ◌-◌, ◌<◌, ◌≤◌, length}
use Rattle.play_queue.specs.Limits.{MAX_ENTRIES, MAX_ID}
use Rattle.play_queue.specs.Queue.{QueueState}

-- a range of a queue of so many entries
pub record IsRange (count start end : ℕ) : Type 0 where
  pub forward : start ≤ end
  pub within : end ≤ count

-- a range, and a position of the rest or the end of it
pub record IsMove (count start end to : ℕ) : Type 0 where
  pub few : count ≤ MAX_ENTRIES
  pub forward : start ≤ end
  pub within : end ≤ count
  pub place : to ≤ count - (end - start)

-- two positions of a queue of so many entries
pub record ArePositions (count one other : ℕ) : Type 0 where
  pub one_within : one < count
  pub other_within : other < count

-- a place, and room for so many entries and their ids
pub record HasRoom (queue : QueueState) (at count : ℕ) : Type 0 where
  pub place : at ≤ length queue.entries
  pub few : length queue.entries + count ≤ MAX_ENTRIES
  pub ids : queue.next_id + count ≤ MAX_ID + 1
