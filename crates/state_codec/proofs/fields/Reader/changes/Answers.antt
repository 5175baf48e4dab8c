use Rattle.std.proofs.Common.{◌≡◌, [], length, ap, ◌∙◌, arith}
use Rattle.state_codec.specs.Changes.{is_count}
use Rattle.state_codec.specs.ReadingRows.{change_at}
use Rattle.state_codec.proofs.ItemLaws.{items_count}
use Rattle.state_codec.proofs.ListLaws.{not_none}
use Rattle.state_codec.proofs.fields.Reader.changes.Goals as goal

pub unreachable-requires : goal.unreachable-requires
unreachable-requires c =
    let count = items_count (λ known. change_at c.args.profile) c.in_ok-count.count [] _ _ c.in_ok-changes.ensures in
    let same : length c.in_ok-changes.changes.items ≡ c.in_ok-count.count = omega (arith, count) in
    not_none _ _ _ c.new.ensures (ap is_count same ∙ c.in_ok-count.ensures.within) c.in-None.is
