use Rattle.std.proofs.Common.{◌∙◌, sym}
use Rattle.play_journal.proofs.GroupLaws.{behind_first, spelled_by, fits_group}
use Rattle.play_journal.proofs.group.Group.behind_gate.Goals as goal

pub returns-clause-spelled : goal.returns-clause-spelled
returns-clause-spelled c = rw (← c.self.view_is) (behind_first c.deref.result.now _
    (c.deref.ensures.value ∙ spelled_by c.self.inside.bytes.items c.self.inside.count c.self.invariant.0)
    (λ none. c.requires (sym c.self.view_is ∙ none)))

pub returns-clause-fits : goal.returns-clause-fits
returns-clause-fits c = rw (← c.self.view_is) (fits_group c.self.inside.bytes.items c.self.inside.count c.self.invariant.0)
