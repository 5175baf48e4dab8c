use Rattle.std.proofs.Common.{◌≡◌, ◌<◌, true, min, is_some, vec_len, vec_capacity}
use Rattle.mio_clients.specs.Waiting.{QuietBehind}
use Rattle.live_stage.specs.Numbers.{greatest}
use Rattle.mio_clients.specs.Parts.{EndsWithin, Serves, looks_in}
use Rattle.mio_clients.proofs.clients.Clients.serve_each.Given as goal

-- behind the events that are left, nothing is asked for
abbrev pub invariant-left : goal.invariant-left
invariant-left g l = record {
  serves : Serves g.S.Stream.remaining g.S.Stream.contents true l.initial.self l.self l.initial.parts.items l.parts.items l.initial.pass l.pass;
  quiet : QuietBehind (is_some l.bound) l.left l.self.events;
  room : vec_len l.parts < vec_capacity l.parts;
  looks : l.looks ≡ min (looks_in l.parts.items) greatest;
  bounded : EndsWithin l.bound (looks_in l.initial.parts.items) → EndsWithin l.bound (looks_in l.parts.items);
}

abbrev pub decreases-left : goal.decreases-left
decreases-left g l = l.left
