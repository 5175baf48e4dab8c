use Rattle.std.proofs.Common.{◌≡◌, length, min, take}
use Rattle.live_stage.specs.Numbers.{greatest}
use Rattle.mio_clients.specs.Parts.{looks_in}
use Rattle.mio_clients.proofs.turning.looks_in.Given as goal

abbrev pub invariant-loop-part : goal.invariant-loop-part
invariant-loop-part g l = l.looks ≡ min (looks_in (take l.part-index l.parts)) greatest
