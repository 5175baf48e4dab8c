use Rattle.std.proofs.Common.{◌≡◌, ◌+◌, ◌*◌, ◌-◌, ◌<◌, ◌≤◌, ◌++◌, length, take, vec_capacity}
use Rattle.disk_model.specs.Later.{IsLater}
use Rattle.play_journal.specs.Laying.{IsDoneBehind}
use Rattle.play_journal.proofs.laying.write_pieces.Given as goal

abbrev pub invariant-loop-at : goal.invariant-loop-at
invariant-loop-at g l = record {
  rest : l.at + length (g.P.Pieces.left l.pieces) ≡ l.end;
  begins : l.start ≤ l.at;
  room : vec_capacity l.fn.buffer ≤ vec_capacity l.buffer;
  later : IsLater g.D.Disk.honest g.D.Disk.history g.D.Disk.faults l.fn.disk l.disk;
  behind : (g.D.Disk.honest l.fn.disk → IsDoneBehind l.start (g.D.Disk.history l.fn.disk) (g.D.Disk.history l.disk));
  long : (g.D.Disk.honest l.fn.disk → l.start ≤ length (g.D.Disk.content l.fn.disk) → l.at ≤ length (g.D.Disk.content l.disk));
  spelled : (g.D.Disk.honest l.fn.disk → l.start ≤ length (g.D.Disk.content l.fn.disk)
      → take l.at (g.D.Disk.content l.disk) ++ g.P.Pieces.left l.pieces
      ≡ take l.start (g.D.Disk.content l.fn.disk) ++ g.P.Pieces.left l.fn.pieces);
  all : (g.D.Disk.honest l.fn.disk → 32768 * length (g.D.Disk.history l.disk)
      ≤ 32768 * length (g.D.Disk.history l.fn.disk) + (l.at - l.start) + 32768);
  whole : (g.D.Disk.honest l.fn.disk → l.at < l.end → 32768 * length (g.D.Disk.history l.disk)
      ≤ 32768 * length (g.D.Disk.history l.fn.disk) + (l.at - l.start));
  faults : g.D.Disk.faults l.disk ≡ g.D.Disk.faults l.fn.disk;
}

abbrev pub decreases-loop-at : goal.decreases-loop-at
decreases-loop-at g l = l.end - l.at
