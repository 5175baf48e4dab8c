use Rattle.std.proofs.Common.{sym, ap, ◌∙◌}
use Rattle.play_queue.specs.Queue.{ids_of}
use Rattle.play_queue.proofs.Stamped.{ids-with_stamps}
use Rattle.play_queue.proofs.entries.Entries.ids.Goals as goal

pub returns-clause-ids : goal.returns-clause-ids
returns-clause-ids c =
    c.ids.ensures.ids ∙ sym (ids-with_stamps c.self.inside.stamps.items c.self.inside.songs) ∙ ap ids_of c.self.view_is

pub returns-clause-own : goal.returns-clause-own
returns-clause-own c =
    rw (← c.self.view_is, ids-with_stamps c.self.inside.stamps.items c.self.inside.songs) c.ids.ensures.own
