use Rattle.client_session.proofs.cutting.take_line.Goals as goal

pub returns-in_err-extend_from_slice-clause-unended : goal.returns-in_err-extend_from_slice-clause-unended
returns-in_err-extend_from_slice-clause-unended c = λ h. rw c.in_err-extend_from_slice.ensures.err h

pub returns-in_err-request-clause-unended : goal.returns-in_err-request-clause-unended
returns-in_err-request-clause-unended c = λ h. rw c.clear.ensures.items tt

pub returns-in_err-push-in-Some-clause-unended : goal.returns-in_err-push-in-Some-clause-unended
returns-in_err-push-in-Some-clause-unended c = λ h. rw c.clear.ensures.items tt

pub returns-in_ok-push-in-Some-clause-unended : goal.returns-in_ok-push-in-Some-clause-unended
returns-in_ok-push-in-Some-clause-unended c = λ h. rw c.clear.ensures.items tt

pub returns-in-None-clause-unended : goal.returns-in-None-clause-unended
returns-in-None-clause-unended c = λ h. rw c.clear.ensures.items tt
