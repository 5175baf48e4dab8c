use Rattle.std.proofs.Common.{length, sym, ap, ◌∙◌}
use Rattle.play_queue.proofs.Stamped.{length-with_stamps}
use Rattle.play_queue.proofs.entries.Entries.len.Goals as goal

pub returns-clause-len : goal.returns-clause-len
returns-clause-len c =
    c.len.ensures.len ∙ sym (length-with_stamps c.self.inside.stamps.items c.self.inside.songs) ∙ ap length c.self.view_is
