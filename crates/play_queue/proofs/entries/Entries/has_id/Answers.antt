use Rattle.std.proofs.Common.{◌==◌, List, sym, ap, ◌∙◌}
use Rattle.std.specs.List.{list_any}
use Rattle.play_queue.specs.declared.entry.Entry.{Entry}
use Rattle.play_queue.proofs.Stamped.{has-with_stamps}
use Rattle.play_queue.proofs.entries.Entries.has_id.Goals as goal

pub returns : goal.returns
returns c =
    c.has.ensures ∙ sym (has-with_stamps c.self.inside.stamps.items c.self.inside.songs c.args.id)
    ∙ ap (λ (es : List Entry). list_any (λ (entry : Entry). entry.id == c.args.id) es) c.self.view_is
