use Rattle.std.proofs.Common.{length}
use Rattle.mio_clients.specs.Connections.{ConnectionsState}
use Rattle.mio_clients.specs.Grouping.{AreGone}
use Rattle.mio_clients.specs.Later.{no_bytes, no_requests}
use Rattle.mio_clients.specs.Leaving.{AllFollow}
use Rattle.mio_clients.specs.Waiting.{StaysQuiet}
use Rattle.mio_clients.proofs.clients.Clients.drop_each.Given as goal

-- once those that are left are gone, all are
abbrev pub invariant-loop-client : goal.invariant-loop-client
invariant-loop-client g l = record {
  later : AllFollow g.S.Stream.remaining g.S.Stream.contents no_bytes no_requests l.initial.self l.self;
  gone : (d : ConnectionsState g.row.S.Denot) → AllFollow g.S.Stream.remaining g.S.Stream.contents no_bytes no_requests l.self d
      → AreGone d l.rest → AreGone d l.clients;
  quiet : StaysQuiet l.initial.self.events l.self.events;
}

abbrev pub decreases-loop-client : goal.decreases-loop-client
decreases-loop-client g l = length l.rest
