use Rattle.std.proofs.Common.{◌≡◌, ◌+◌, ◌++◌, vec_len, vec_capacity}
use Rattle.live_stage.specs.GroupRun.{refusals}
use Rattle.live_stage.proofs.group_run.refuse_each.Given as goal

-- once those that are left are put behind, all are
abbrev pub invariant-left : goal.invariant-left
invariant-left g l = record {
  items : l.answers.items ++ refusals l.left l.error ≡ l.initial.answers.items ++ refusals l.count l.error;
  len : vec_len l.answers + l.left ≡ vec_len l.initial.answers + l.count;
  capacity : vec_capacity l.answers ≡ vec_capacity l.initial.answers;
}

abbrev pub decreases-left : goal.decreases-left
decreases-left g l = l.left
