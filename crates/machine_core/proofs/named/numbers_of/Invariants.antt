use Rattle.std.proofs.Common.{◌≡◌, take}
use Rattle.machine_core.specs.Named.{numbers_of}
use Rattle.machine_core.proofs.named.numbers_of.Given as goal

abbrev pub invariant-loop-uri : goal.invariant-loop-uri
invariant-loop-uri l = l.numbers.items ≡ numbers_of l.songs (take l.uri-index l.uris)
