use Rattle.std.proofs.Common.{◌==◌, [], Some, sym, ap, ◌∙◌}
use Rattle.play_queue.specs.declared.entry.Entry.{Entry}
use Rattle.play_queue.proofs.Found.{find-position, find-none}
use Rattle.play_queue.proofs.entries.Entries.with_id.Goals as goal

pub returns-in-Some : goal.returns-in-Some
returns-in-Some c =
    let d : Entry = record { id = 0; uri = []; priority = 0; stamp = 0 } in
    sym (find-position (λ (entry : Entry). entry.id == c.args.id) c.args.self.now c.in-Some.at d (sym c.in-Some.ensures.found)
    ∙ ap (λ e. Some e) (c.at.ensures d))

pub returns-in-None : goal.returns-in-None
returns-in-None c = sym (find-none (λ (entry : Entry). entry.id == c.args.id) c.args.self.now (sym c.in-None.ensures.found))
