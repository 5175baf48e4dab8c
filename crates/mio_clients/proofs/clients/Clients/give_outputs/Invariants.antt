use Rattle.std.proofs.Common.{length}
use Rattle.mio_clients.specs.Waiting.{StaysQuiet}
use Rattle.mio_clients.specs.Connections.{ConnectionsState}
use Rattle.mio_clients.specs.Later.{no_requests}
use Rattle.mio_clients.specs.Leaving.{AllFollow}
use Rattle.mio_clients.specs.Parts.{sent_by}
use Rattle.mio_clients.proofs.clients.Clients.give_outputs.Given as goal

-- once what is left is given, all is
abbrev pub invariant-loop-output : goal.invariant-loop-output
invariant-loop-output g l = record {
  later : (d : ConnectionsState g.row.S.Denot) → AllFollow g.S.Stream.remaining g.S.Stream.contents (sent_by l.rest) no_requests l.self d
      → AllFollow g.S.Stream.remaining g.S.Stream.contents (sent_by l.outputs) no_requests l.initial.self d;
  quiet : StaysQuiet l.initial.self.events l.self.events;
}

abbrev pub decreases-loop-output : goal.decreases-loop-output
decreases-loop-output g l = length l.rest
