use Rattle.std.proofs.Common.{◌≡◌, ◌≤◌, ◌+◌, length, reverse, vec_capacity}
use Rattle.live_stage.proofs.StagingLaws.{IsStagedTo}
use Rattle.live_stage.proofs.staging.stage_events.Given as goal

abbrev pub invariant-events : goal.invariant-events
invariant-events g l = record {
  staged : IsStagedTo g.row.D.Denot l.begin l.fn.core (reverse l.fn.left.items) l.turns.items l.core l.group l.left.items l.bytes
      l.looks l.has_ended;
  places : length l.turns.items + length l.left.items ≤ vec_capacity l.turns;
  room : vec_capacity l.room ≡ vec_capacity l.fn.room;
}

abbrev pub decreases-events : goal.decreases-events
decreases-events g l = length l.left.items
