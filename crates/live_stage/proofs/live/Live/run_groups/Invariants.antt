use Rattle.std.proofs.Common.{◌≡◌, true, false, List, ◌+◌, ◌≤◌, ◌++◌, length, vec_len, vec_capacity}
use Rattle.daemon_core.specs.declared.event.Event.{Event}
use Rattle.live_stage.specs.GroupRun.{IsGroupsSoFar}
use Rattle.live_stage.proofs.GroupRunLaws.{HasFailedBetween}
use Rattle.live_stage.proofs.live.Live.run_groups.Given as goal

abbrev pub invariant-groups : goal.invariant-groups
invariant-groups g l = record {
  so_far : (done : List Event) × (done ++ l.rest.items ≡ l.initial.rest.items)
      × IsGroupsSoFar g.D.Disk.honest g.D.Disk.history l.initial.self l.self done l.answers.items;
  room : vec_len l.answers + length l.rest.items ≤ vec_capacity l.answers;
  later_a : g.D.Disk.faults l.initial.self.a ≤ g.D.Disk.faults l.self.a;
  later_b : g.D.Disk.faults l.initial.self.b ≤ g.D.Disk.faults l.self.b;
  fault : g.D.Disk.honest l.initial.self.a → g.D.Disk.honest l.initial.self.b → l.initial.self.is_broken ≡ false → l.self.is_broken ≡ true
      → HasFailedBetween g.D.Disk.faults l.initial.self l.self;
}

abbrev pub decreases-groups : goal.decreases-groups
decreases-groups g l = length l.rest.items
