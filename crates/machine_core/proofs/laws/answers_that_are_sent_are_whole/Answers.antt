use Rattle.std.proofs.Common.{sym}
use Rattle.machine_core.proofs.Fronts.{never_sent, sent_whole, short_told}
use Rattle.machine_core.proofs.laws.answers_that_are_sent_are_whole.Goals as goal

pub returns-clause-whole : goal.returns-clause-whole
returns-clause-whole c = λ text short. sent_whole text short

pub returns-clause-same : goal.returns-clause-same
returns-clause-same c = λ text meant same short. sym (short_told meant text (sym same) short)

pub returns-clause-too_long : goal.returns-clause-too_long
returns-clause-too_long c = λ text long. never_sent text long
