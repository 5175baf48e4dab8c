use Rattle.std.proofs.Common.{◌≡◌, ◌≤◌, length, drop}
use Rattle.std.specs.List.{AllByRecursion}
use Rattle.mio_clients.specs.Later.{no_bytes, no_requests}
use Rattle.mio_clients.specs.Leaving.{AllFollow, IsForgotten}
use Rattle.mio_clients.specs.Waiting.{StaysQuiet}
use Rattle.mio_clients.proofs.connections.Connections.forget_left.Given as goal

-- what the last of them asked for was let go of
abbrev pub invariant-loop-left : goal.invariant-loop-left
invariant-loop-left g l = record {
  later : AllFollow g.S.Stream.remaining g.S.Stream.contents no_bytes no_requests l.initial.self l.self;
  same : l.self ≡ record l.initial.self { events = l.self.events; room = l.self.room };
  forgotten : AllByRecursion (λ last. IsForgotten last.id l.self) (drop l.left l.initial.self.left);
  quiet : StaysQuiet l.initial.self.events l.self.events;
  within : l.left ≤ length l.initial.self.left;
}

abbrev pub decreases-loop-left : goal.decreases-loop-left
decreases-loop-left g l = l.left
