use Rattle.std.proofs.Common.{◌==◌, length, sym, ap, ◌∙◌}
use Rattle.play_queue.proofs.Stamped.{length-with_stamps}
use Rattle.play_queue.proofs.entries.Entries.is_empty.Goals as goal

pub returns : goal.returns
returns c =
    ap (λ n. n == 0)
    (c.len.ensures.len ∙ sym (length-with_stamps c.self.inside.stamps.items c.self.inside.songs) ∙ ap length c.self.view_is)
