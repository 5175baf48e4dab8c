use Rattle.std.proofs.Common.{ℕ, List, slice_range, ap, ◌∙◌}
use Rattle.player_core.specs.Removal.{IsFew, without_ids}
use Rattle.player_core.proofs.LeftIds.{few_leave}
use Rattle.player_core.proofs.kept_round.KeptRound.follow_removal.Goals as goal

pub returns-then-are_few : goal.returns-then-are_few
returns-then-are_few c =
    let few : IsFew c.args.block c.args.dropped.now c.args.entries.now = rw c.if-are_few.true at c.are_few.ensures in
    c.leave_each.ensures
    ∙ ap (λ (ids : List ℕ). without_ids (slice_range ids c.args.block.start c.args.block.end) c.args.self.now) c.ids.ensures.ids
    ∙ few_leave c.args.block c.args.dropped.now c.args.entries.now c.args.self.now few c.ids.ensures.own
