use Rattle.std.proofs.Common.{length}
use Rattle.state_codec.specs.ReadingOps.{ops_at}
use Rattle.state_codec.proofs.BodyLaws.{ReadSoFar}
use Rattle.state_codec.proofs.reading.front_ops.Given as goal

abbrev pub invariant-loop-reader : goal.invariant-loop-reader
invariant-loop-reader l = ReadSoFar l.layout (length l.bytes) l.ops.items l.reader.rest.now (ops_at l.layout (length l.bytes) l.bytes)

abbrev pub decreases-loop-reader : goal.decreases-loop-reader
decreases-loop-reader l = length l.reader.rest.now
