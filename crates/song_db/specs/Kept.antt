-- What is kept beside the rows of the songs.
use Rattle.std.specs.Prelude.{◌≡◌, ℕ, ◌+◌, ◌≤◌, List, Option, vec_len, vec_capacity}
use Rattle.std.specs.declared.alloc.Global.{Global}
use Rattle.std.specs.declared.vec.Vec.{Vec}
use Rattle.song_db.specs.declared.value_index.TagValues.{TagValues}
use Rattle.song_db.specs.Change.{IsDatabase}
use Rattle.song_db.specs.Duration.{IsTimed}
use Rattle.song_db.specs.Row.{Row}
use Rattle.song_db.specs.Tagged.{AreCounted}
use Rattle.song_db.specs.Told.{told_order}
use Rattle.song_db.specs.ValueIndex.{IsIndexed}

-- the rows in the order in which they are told, their milliseconds, how many have each tag, and their index
pub record AreKept (rows in_order : List Row) (total : ℕ) (counts : List ℕ) (index : Option (List TagValues)) : Type 0 where
  pub database : IsDatabase rows
  pub timed : IsTimed rows total
  pub indexed : IsIndexed rows index
  pub told : in_order ≡ told_order rows
  pub counted : AreCounted rows counts

-- one place more is taken at most, in the memory that was there
pub record IsInPlace (before after : Vec Row Global) : Type 0 where
  pub len : vec_len after ≤ vec_len before + 1
  pub capacity : vec_capacity after ≡ vec_capacity before
