use Rattle.std.proofs.Common.{◌∙◌, ap, sym, unwrap_or}
use Rattle.idle_masks.specs.Subsystems.{none, intersection}
use Rattle.idle_masks.proofs.Sets.{nothing_of_none}
use Rattle.idle_masks.proofs.watch.Watched.due.Goals as goal

pub returns-in-None : goal.returns-in-None
returns-in-None c =
    let w = c.args.self.now in
    c.none.ensures
    ∙ sym (ap (λ waiting. intersection w.pending (unwrap_or waiting none)) c.in-None.is ∙ nothing_of_none w.pending)
