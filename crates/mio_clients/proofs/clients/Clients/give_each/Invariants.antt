use Rattle.std.proofs.Common.{length}
use Rattle.mio_clients.specs.Waiting.{StaysQuiet}
use Rattle.mio_clients.specs.Connections.{ConnectionsState}
use Rattle.mio_clients.specs.Later.{no_requests}
use Rattle.mio_clients.specs.Leaving.{AllFollow}
use Rattle.mio_clients.specs.Parts.{sent_by_all}
use Rattle.mio_clients.proofs.clients.Clients.give_each.Given as goal

-- once what is left is given, all is
abbrev pub invariant-loop-outputs : goal.invariant-loop-outputs
invariant-loop-outputs g l = record {
  later : (d : ConnectionsState g.row.S.Denot) → AllFollow g.S.Stream.remaining g.S.Stream.contents (sent_by_all l.rest) no_requests l.self d
      → AllFollow g.S.Stream.remaining g.S.Stream.contents (sent_by_all l.events) no_requests l.initial.self d;
  quiet : StaysQuiet l.initial.self.events l.self.events;
}

abbrev pub decreases-loop-outputs : goal.decreases-loop-outputs
decreases-loop-outputs g l = length l.rest
