use Rattle.std.proofs.Common.{◌∙◌}
use Rattle.play_queue.proofs.Located.{found_is}
use Rattle.play_queue.proofs.places.has_id.Goals as goal

pub returns : goal.returns
returns c = c.is_ok.ensures.value ∙ found_is c.args.sorted.now c.args.id c.binary_search.result c.requires c.binary_search.ensures.bound
    c.binary_search.ensures.position
