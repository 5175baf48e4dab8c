use Rattle.command_text.proofs.FilterFaults.{refused_so}
use Rattle.command_text.proofs.laws.a_bad_filter_stays_bad.Goals as goal

pub returns : goal.returns
returns c = refused_so
