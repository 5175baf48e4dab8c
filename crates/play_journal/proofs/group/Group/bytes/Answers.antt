use Rattle.std.proofs.Common.{arith}
use Rattle.play_journal.proofs.GroupLaws.{length-group, fits_group}
use Rattle.play_journal.proofs.group.Group.bytes.Goals as goal

pub returns-clause-value : goal.returns-clause-value
returns-clause-value c = rw (← c.self.view_is)
    (omega (arith, c.len.ensures, length-group c.self.inside.bytes.items c.self.inside.count c.self.invariant.0))

pub returns-clause-fits : goal.returns-clause-fits
returns-clause-fits c = rw (← c.self.view_is) (fits_group c.self.inside.bytes.items c.self.inside.count c.self.invariant.0)
