use Rattle.state_codec.proofs.OpsUnchanged.{op_apart, op_stays, op_only}
use Rattle.state_codec.proofs.RowsUnchanged.{batch_exactly}
use Rattle.state_codec.proofs.laws.unchanged.changes_nothing_exactly.Goals as goal

pub returns-clause-stays : goal.returns-clause-stays
returns-clause-stays c = op_stays

pub returns-clause-only : goal.returns-clause-only
returns-clause-only c = op_only

pub returns-clause-apart : goal.returns-clause-apart
returns-clause-apart c = λ place op s. op_apart op place s

pub returns-clause-batch : goal.returns-clause-batch
returns-clause-batch c = λ changes s saved none. batch_exactly changes s saved none
