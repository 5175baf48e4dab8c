use Rattle.state_codec.proofs.AppliedLaws.{all_applied-append, all_applied_in_range, all_applied_kept, applied_in_range}
use Rattle.state_codec.proofs.laws.applied.applied_in_turn.Goals as goal

pub returns-clause-joined : goal.returns-clause-joined
returns-clause-joined c = all_applied-append

pub returns-clause-in_range : goal.returns-clause-in_range
returns-clause-in_range c = all_applied_in_range

pub returns-clause-kept : goal.returns-clause-kept
returns-clause-kept c = all_applied_kept

pub returns-clause-one : goal.returns-clause-one
returns-clause-one c = applied_in_range
