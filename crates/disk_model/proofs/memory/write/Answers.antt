use Rattle.std.proofs.Common.{rules}
use Rattle.disk_model.proofs.memory.write.Goals as goal

-- what is kept is the copy
pub returns-clause-recorded : goal.returns-clause-recorded
returns-clause-recorded c = (c.in_ok-kept.kept, search rules, search rules)
