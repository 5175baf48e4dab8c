use Rattle.std.proofs.Common.{◌≡◌, ◌+◌, ◌<◌, ◌++◌, length, vec_len, vec_capacity}
use Rattle.std.specs.Vec.Iter.{into_iter_items}
use Rattle.mio_clients.specs.Connections.{ConnectionsState}
use Rattle.mio_clients.specs.Grouping.{parts_of}
use Rattle.mio_clients.specs.Later.{no_requests}
use Rattle.mio_clients.specs.Leaving.{AllFollow}
use Rattle.mio_clients.specs.Parts.{bytes_in}
use Rattle.mio_clients.specs.Waiting.{StaysQuiet}
use Rattle.mio_clients.proofs.clients.Clients.queue_group.Given as goal

-- once those that are left are queued, all are
abbrev pub invariant-loop-turn : goal.invariant-loop-turn
invariant-loop-turn g l = record {
  parts : l.parts.items ++ parts_of l.before (into_iter_items l.turn-iterator)
      ≡ l.initial.parts.items ++ parts_of l.fn.before (into_iter_items l.initial.turn-iterator);
  later : (d : ConnectionsState g.row.S.Denot)
      → AllFollow g.S.Stream.remaining g.S.Stream.contents
      (bytes_in (parts_of {D = g.row.D.Denot} l.before (into_iter_items l.turn-iterator))) no_requests l.self d
      → AllFollow g.S.Stream.remaining g.S.Stream.contents
      (bytes_in (parts_of {D = g.row.D.Denot} l.fn.before (into_iter_items l.initial.turn-iterator))) no_requests l.initial.self d;
  quiet : StaysQuiet l.initial.self.events l.self.events;
  room : vec_len l.parts + length (into_iter_items l.turn-iterator) < vec_capacity l.parts;
}
