use Rattle.std.proofs.Common.{refl}
use Rattle.state_codec.proofs.OpsUnchanged.{op_refused, op_nothing, op_first}
use Rattle.state_codec.proofs.laws.unchanged.order_stands_apart.Goals as goal

pub returns-clause-refused : goal.returns-clause-refused
returns-clause-refused c = λ order s. refl

pub returns-clause-same_refusal : goal.returns-clause-same_refusal
returns-clause-same_refusal c = op_refused

pub returns-clause-same_nothing : goal.returns-clause-same_nothing
returns-clause-same_nothing c = op_nothing

pub returns-clause-either_first : goal.returns-clause-either_first
returns-clause-either_first c = op_first
