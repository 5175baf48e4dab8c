use Rattle.play_queue.proofs.Tops.{tops-with_stamps}
use Rattle.play_queue.proofs.entries.Entries.top_priority.Goals as goal

pub returns : goal.returns
returns c =
    rw (← c.self.view_is) (tops-with_stamps c.top_priority.result c.self.inside.stamps.items c.self.inside.songs c.top_priority.ensures)
