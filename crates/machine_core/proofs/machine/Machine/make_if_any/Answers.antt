use Rattle.machine_core.proofs.machine.Machine.make_if_any.Goals as goal

pub returns-in-Some-clause-bytes : goal.returns-in-Some-clause-bytes
returns-in-Some-clause-bytes c = λ profile. rw c.in-Some.is (c.make_place.ensures.bytes profile)
