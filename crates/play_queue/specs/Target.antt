-- The position that a place names.
use Rattle.std.specs.Prelude.{ℕ, ◌+◌, ◌-◌, nat_lt, Option, Some, None, Result, Ok, Err, if◌then◌else◌}
use Rattle.play_queue.specs.declared.target.Target.{Target}
use Rattle.play_queue.specs.declared.target.Target.TheVariants.{At, After, Before}
use Rattle.play_queue.specs.declared.refusal.QueueError.{QueueError}
use Rattle.play_queue.specs.declared.refusal.QueueError.TheVariants.{BadIndex, NoCurrentSong}

-- a position up to the length
abbrev pub up_to : ℕ → ℕ → Result ℕ QueueError
up_to length position = if nat_lt length position then Err BadIndex else Ok position

-- `+N` is N places behind the one after the current song, `-N` is N places in front of the current song
abbrev pub resolved : Target → Option ℕ → ℕ → Result ℕ QueueError
resolved (At position) current length = up_to length position
resolved (After n) None length = Err NoCurrentSong
resolved (After n) (Some current) length = up_to length (current + 1 + n)
resolved (Before n) None length = Err NoCurrentSong
resolved (Before n) (Some current) length = if nat_lt current n then Err BadIndex else up_to length (current - n)
