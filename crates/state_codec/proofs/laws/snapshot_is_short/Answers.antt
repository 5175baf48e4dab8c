use Rattle.state_codec.proofs.LengthLaws.{snapshot_len, snapshot_counted}
use Rattle.state_codec.proofs.laws.snapshot_is_short.Goals as goal

pub returns-clause-longest : goal.returns-clause-longest
returns-clause-longest c = snapshot_len

pub returns-clause-counted : goal.returns-clause-counted
returns-clause-counted c = snapshot_counted
