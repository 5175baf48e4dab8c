use Rattle.std.proofs.Common.{◌≡◌, ◌+◌, ◌<◌, ◌^◌, length}
use Rattle.stage_workers.specs.Books.{counted_by, events_of}
use Rattle.stage_workers.specs.Group.{passed_by}
use Rattle.stage_workers.proofs.grouping.count_each.Given as goal

-- once what is left is counted, all is
abbrev pub invariant-loop-turn : goal.invariant-loop-turn
invariant-loop-turn g l = record {
  kind : l.pass.kind ≡ l.initial.pass.kind;
  fits : events_of l.books + length l.rest < 2 ^ 64;
  book : counted_by (length l.rest) l.initial.pass.kind l.books ≡ counted_by (length l.turns) l.initial.pass.kind l.initial.books;
  passed : passed_by l.pass l.rest ≡ passed_by l.initial.pass l.turns;
}

abbrev pub decreases-loop-turn : goal.decreases-loop-turn
decreases-loop-turn g l = length l.rest
