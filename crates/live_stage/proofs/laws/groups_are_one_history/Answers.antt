use Rattle.live_stage.proofs.HistoryLaws.{next_history, one_history}
use Rattle.live_stage.proofs.laws.groups_are_one_history.Goals as goal

pub returns-clause-first : goal.returns-clause-first
returns-clause-first g c = λ old new turns. one_history old new turns

pub returns-clause-next : goal.returns-clause-next
returns-clause-next g c = λ old between begun new turns more. next_history old between begun new turns more
