use Rattle.stage_workers.proofs.SettlingLaws.{foreign_settled, receipts_settled, shares_settled}
use Rattle.stage_workers.proofs.shared.SharedStage.settle.Goals as goal

pub returns-clause-shares : goal.returns-clause-shares
returns-clause-shares g c = shares_settled _ c.args.passes.items _ c.settled.ensures.all c.settled.ensures.live

pub returns-clause-receipts : goal.returns-clause-receipts
returns-clause-receipts g c = receipts_settled _ _ _ c.settled.ensures.receipts c.settled.ensures.live

pub returns-clause-foreign : goal.returns-clause-foreign
returns-clause-foreign g c = foreign_settled _ c.into_inner.result.books c.args.passes.items _ _ c.settled.ensures.reason c.settled.ensures.live
