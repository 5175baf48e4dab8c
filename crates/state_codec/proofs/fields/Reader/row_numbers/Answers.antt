use Rattle.std.proofs.Common.{◌≡◌, [], true, arith}
use Rattle.std.proofs.lemmas.Bool.{le-leb}
use Rattle.state_codec.specs.Fields.{u32_at}
use Rattle.state_codec.specs.Numbers.{are_few}
use Rattle.state_codec.proofs.ItemLaws.{items_count}
use Rattle.state_codec.proofs.ListLaws.{not_none}
use Rattle.state_codec.proofs.fields.Reader.row_numbers.Goals as goal

pub unreachable-requires : goal.unreachable-requires
unreachable-requires c =
    let count = items_count (λ known. u32_at) c.in_ok-count.count [] _ _ c.in_ok-numbers.ensures in
    let few : are_few c.in_ok-numbers.numbers.items ≡ true = le-leb _ _ (omega (arith, count)) in
    not_none _ _ _ c.new.ensures few c.in-None.is
