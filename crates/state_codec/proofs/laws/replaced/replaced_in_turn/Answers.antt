use Rattle.state_codec.proofs.ReplaceLaws.{applied_replaced, nothing_replaced, stands_replaced}
use Rattle.state_codec.proofs.laws.replaced.replaced_in_turn.Goals as goal

pub returns-clause-applied : goal.returns-clause-applied
returns-clause-applied c = applied_replaced

pub returns-clause-nothing : goal.returns-clause-nothing
returns-clause-nothing c = nothing_replaced

pub returns-clause-stands : goal.returns-clause-stands
returns-clause-stands c = stands_replaced
