use Rattle.std.proofs.Common.{◌≡◌, ◌+◌, ◌++◌, length, vec_len, vec_capacity}
use Rattle.std.specs.Vec.Iter.{into_iter_items}
use Rattle.live_stage.proofs.HistoryLaws.{oks}
use Rattle.live_stage.proofs.group_run.answer_each.Given as goal

-- once those that are left are put behind, all are
abbrev pub invariant-loop-turn : goal.invariant-loop-turn
invariant-loop-turn g l = record {
  items : l.answers.items ++ oks (into_iter_items l.turn-iterator) ≡ l.initial.answers.items ++ oks (into_iter_items l.initial.turn-iterator);
  len : vec_len l.answers + length (into_iter_items l.turn-iterator) ≡ vec_len l.initial.answers + length (into_iter_items l.initial.turn-iterator);
  capacity : vec_capacity l.answers ≡ vec_capacity l.initial.answers;
}
