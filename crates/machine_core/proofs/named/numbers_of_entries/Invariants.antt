use Rattle.std.proofs.Common.{◌≡◌, take}
use Rattle.state_codec.specs.OpsLists.{uris_of}
use Rattle.machine_core.specs.Named.{numbers_of}
use Rattle.machine_core.proofs.named.numbers_of_entries.Given as goal

abbrev pub invariant-loop-at : goal.invariant-loop-at
invariant-loop-at l = l.numbers.items ≡ numbers_of l.songs (uris_of (take l.at l.entries))
