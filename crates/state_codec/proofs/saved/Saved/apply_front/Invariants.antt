use Rattle.std.proofs.Common.{length}
use Rattle.state_codec.specs.Body.{front_applied}
use Rattle.state_codec.proofs.ApplyLaws.{BodySoFar}
use Rattle.state_codec.proofs.saved.Saved.apply_front.Given as goal

abbrev pub invariant-loop-reader : goal.invariant-loop-reader
invariant-loop-reader l = BodySoFar l.layout (length l.body) l.place l.reader.rest.now l.self (front_applied l.layout l.fn.self l.body)

abbrev pub decreases-loop-reader : goal.decreases-loop-reader
decreases-loop-reader l = length l.reader.rest.now
