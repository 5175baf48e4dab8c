use Rattle.std.proofs.Common.{◌≡◌, length, min, take}
use Rattle.std.specs.Prelude.{sum_by}
use Rattle.live_stage.specs.Numbers.{greatest}
use Rattle.live_stage.proofs.staging.given_out.Given as goal

abbrev pub invariant-loop-output : goal.invariant-loop-output
invariant-loop-output l = l.bytes ≡ min (sum_by (λ o. length o.bytes) (take l.output-index l.outputs)) greatest
