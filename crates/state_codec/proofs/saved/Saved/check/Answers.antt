use Rattle.state_codec.proofs.saved.Saved.check.Goals as goal

pub returns-in-Batch-clause-answer : goal.returns-in-Batch-clause-answer
returns-in-Batch-clause-answer c = rw (← c.self.view_is, c.in-Batch.is) c.check_batch.ensures.answer
