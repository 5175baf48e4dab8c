use Rattle.std.proofs.Common.{◌≡◌, ◌-◌}
use Rattle.std.specs.Prelude.{◌↔◌}
use Rattle.disk_model.proofs.LengthLaws.{IsPutBehind}
use Rattle.disk_model.proofs.disk.Disk.lengthen.Given as goal

abbrev pub invariant-loop-at : goal.invariant-loop-at
invariant-loop-at g l = record {
  honesty : (g.Self.Disk.honest l.fn.self ↔ g.Self.Disk.honest l.self);
  faults : g.Self.Disk.faults l.self ≡ g.Self.Disk.faults l.fn.self;
  put : (g.Self.Disk.honest l.fn.self → IsPutBehind l.len (g.Self.Disk.content l.fn.self) (g.Self.Disk.content l.self)
      (g.Self.Disk.history l.fn.self) (g.Self.Disk.history l.self) l.at);
}

abbrev pub decreases-loop-at : goal.decreases-loop-at
decreases-loop-at g l = l.len - l.at
