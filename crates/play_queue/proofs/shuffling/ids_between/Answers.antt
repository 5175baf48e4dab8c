use Rattle.play_queue.proofs.Stamped.{ids-between}
use Rattle.play_queue.proofs.shuffling.ids_between.Goals as goal

pub returns : goal.returns
returns c = rw (← ids-between c.args.entries.now c.args.start c.args.end, ← c.ids.ensures.ids) c.from_slice.ensures.items
