use Rattle.state_codec.proofs.PieceLaws.{list_items}
use Rattle.state_codec.proofs.pieces.items.ListsLeft.new.Goals as goal

pub invariant_of-result : goal.invariant_of-result
invariant_of-result c = rw c.iter-2.ensures (list_items c.args.lists.now c.len-within.ensures.within)
