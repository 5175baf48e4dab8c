-- The numbers of the refusals.
use Rattle.std.specs.Prelude.{ℕ}
use Rattle.idle_masks.specs.declared.refusal.WatchError.{WatchError}
use Rattle.idle_masks.specs.declared.refusal.WatchError.TheVariants.{NoSuchClient, NoMemory}

abbrev pub number_of : WatchError → ℕ
number_of NoSuchClient = 34
number_of NoMemory = 7
