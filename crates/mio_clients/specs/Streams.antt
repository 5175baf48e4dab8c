-- What the calls of a stream tell.
use Rattle.std.specs.Prelude.{ℕ, List, Option}
use Rattle.std.specs.Io.KnownBytes.{Keeps}

-- nothing was read or written in between
pub record IsUntouched {S : Type 0} (remaining contents : S → Option (List ℕ)) (before after : S) : Type 0 where
  pub unread : Keeps (remaining before) (remaining after)
  pub unwritten : Keeps (contents before) (contents after)
