use Rattle.daemon_core.proofs.QuietLaws.{quiet, nobody_is_due}
use Rattle.daemon_core.proofs.laws.nobody_waits_for_what_is_pending.Goals as goal

pub returns-clause-kept : goal.returns-clause-kept
returns-clause-kept c = quiet

pub returns-clause-told : goal.returns-clause-told
returns-clause-told c = nobody_is_due
