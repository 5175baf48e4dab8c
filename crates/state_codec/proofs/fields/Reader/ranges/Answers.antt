use Rattle.std.proofs.Common.{◌≡◌, [], true, ap, ◌∙◌, arith}
use Rattle.std.proofs.lemmas.Bool.{le-leb}
use Rattle.state_codec.specs.Fields.{pair_at}
use Rattle.state_codec.specs.Numbers.{are_few, are_ranges}
use Rattle.state_codec.proofs.ItemLaws.{items_count}
use Rattle.state_codec.proofs.ListLaws.{not_none}
use Rattle.state_codec.proofs.TextLaws.{both_is_true}
use Rattle.state_codec.proofs.fields.Reader.ranges.Goals as goal

pub unreachable-requires : goal.unreachable-requires
unreachable-requires c =
    let count = items_count (λ known. pair_at) c.in_ok-count.count [] _ _ c.in_ok-pairs.ensures.pairs in
    let few : are_few c.in_ok-pairs.pairs.items ≡ true = le-leb _ _ (omega (arith, count)) in
    let good : are_ranges c.in_ok-pairs.pairs.items ≡ true = both_is_true _ _ few c.in_ok-pairs.ensures.within in
    not_none _ _ _ c.new-2.ensures (ap are_ranges c.in_ok-ranges.ensures ∙ good) c.in-None.is
