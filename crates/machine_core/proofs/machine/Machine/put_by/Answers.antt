use Rattle.machine_core.proofs.machine.Machine.put_by.Goals as goal

pub returns-in-Wide-clause-bytes : goal.returns-in-Wide-clause-bytes
returns-in-Wide-clause-bytes c = λ any. rw c.in-Wide.is (c.put_place.ensures.bytes any)
