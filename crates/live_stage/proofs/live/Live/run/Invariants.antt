use Rattle.std.proofs.Common.{◌≡◌, true, false, ◌+◌, ◌≤◌, ◌++◌, length, vec_len, vec_capacity}
use Rattle.std.specs.Vec.Iter.{into_iter_items, into_iter_len}
use Rattle.live_stage.proofs.RunLaws.{IsRunSoFar, HasFailed}
use Rattle.live_stage.proofs.live.Live.run.Given as goal

abbrev pub invariant-loop-event : goal.invariant-loop-event
invariant-loop-event g l = record {
  so_far : IsRunSoFar g.D.Disk.honest g.D.Disk.history l.initial.self l.self l.yielded l.answers.items;
  left : l.yielded ++ into_iter_items l.event-iterator ≡ into_iter_items l.initial.event-iterator;
  room : vec_len l.answers + length (into_iter_items l.event-iterator) ≤ vec_capacity l.answers;
  counted : into_iter_len l.event-iterator ≡ length (into_iter_items l.event-iterator);
  stays : l.initial.self.is_broken ≡ true → l.self ≡ l.initial.self;
  later_a : g.D.Disk.faults l.initial.self.a ≤ g.D.Disk.faults l.self.a;
  later_b : g.D.Disk.faults l.initial.self.b ≤ g.D.Disk.faults l.self.b;
  fault : g.D.Disk.honest l.initial.self.a → g.D.Disk.honest l.initial.self.b → l.initial.self.is_broken ≡ false → l.self.is_broken ≡ true
      → HasFailed g.D.Disk.faults l.initial.self l.self;
}
