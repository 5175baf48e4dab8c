-- What the work of a thread does to its pass.
use Rattle.std.specs.Prelude.{◌≡◌, ℕ, ◌+◌, ◌<◌, ◌≤◌, List, Option, None}
use Rattle.std.specs.Io.KnownBytes.{Keeps}
use Rattle.stage_workers.specs.PassState.{PassState}

-- one event more, of the same kind
pub record HasReported (old new : PassState) : Type 0 where
  pub kind : new.kind ≡ old.kind
  pub share : new.share ≡ old.share + 1
  pub later : old.seen < new.seen

-- any number of events more
pub record GoesOn (old new : PassState) : Type 0 where
  pub kind : new.kind ≡ old.kind
  pub share : old.share ≤ new.share
  pub later : old.seen ≤ new.seen

-- at least one event more
pub record HasWorked (old new : PassState) : Type 0 where
  pub goes_on : GoesOn old new
  pub made : old.share < new.share

-- nothing was done: no event was made and no byte written, and no song is open
pub record IsUndone {S : Type 0} (old new : PassState) (song : Option S) (before after : Option (List ℕ)) : Type 0 where
  pub same_pass : new ≡ old
  pub closed : song ≡ None
  pub silent : Keeps before after
