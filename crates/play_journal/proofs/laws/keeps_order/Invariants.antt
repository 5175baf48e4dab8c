use Rattle.std.proofs.Common.{◌≡◌, map, take, Some}
use Rattle.play_journal.specs.Pair.{AllPairsNow}
use Rattle.play_journal.proofs.laws.keeps_order.Given as goal

abbrev pub invariant-loop-body : goal.invariant-loop-body
invariant-loop-body g l = record {
  honest_a : (g.D.Disk.honest l.fn.a → g.D.Disk.honest l.journal.a);
  honest_b : (g.D.Disk.honest l.fn.b → g.D.Disk.honest l.journal.b);
  snapshot : (g.D.Disk.honest l.fn.a → g.D.Disk.honest l.fn.b → l.journal.content.snapshot ≡ l.snapshot);
  records : (g.D.Disk.honest l.fn.a → g.D.Disk.honest l.fn.b → l.journal.content.records ≡ map (λ body. body.items)
      (take l.body-index l.bodies));
  kept : (g.D.Disk.honest l.fn.a → g.D.Disk.honest l.fn.b → AllPairsNow (λ f. f ≡ Some l.journal.content) (g.D.Disk.history l.journal.a)
      (g.D.Disk.history l.journal.b));
}
