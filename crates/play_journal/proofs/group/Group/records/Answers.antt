use Rattle.std.proofs.Common.{sym}
use Rattle.play_journal.proofs.GroupLaws.{counted_by}
use Rattle.play_journal.proofs.group.Group.records.Goals as goal

pub returns : goal.returns
returns c = rw (← c.self.view_is) (sym (counted_by c.self.inside.bytes.items c.self.inside.count c.self.invariant.0))
