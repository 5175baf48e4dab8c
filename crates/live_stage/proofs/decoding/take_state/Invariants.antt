use Rattle.std.proofs.Common.{drop}
use Rattle.live_stage.specs.Found.{stored_reading}
use Rattle.live_stage.proofs.DecodingLaws.{IsReadTo}
use Rattle.live_stage.proofs.decoding.take_state.Given as goal

abbrev pub invariant-loop-place : goal.invariant-loop-place
invariant-loop-place l = IsReadTo l.layout l.gate l.saved (drop l.place l.stored.records)
    (stored_reading l.layout l.stored.snapshot l.stored.records)
