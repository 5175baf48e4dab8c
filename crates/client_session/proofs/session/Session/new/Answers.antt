use Rattle.client_session.proofs.Sessions.{holds_nothing}
use Rattle.client_session.proofs.StreamLaws.{requests_of-nil, left_of-nil}
use Rattle.client_session.proofs.session.Session.new.Goals as goal

pub invariant_of-result : goal.invariant_of-result
invariant_of-result c = holds_nothing _ _ _ c.new.ensures.items c.new-2.ensures.items

pub returns-clause-no_requests : goal.returns-clause-no_requests
returns-clause-no_requests c = requests_of-nil

pub returns-clause-nothing_left : goal.returns-clause-nothing_left
returns-clause-nothing_left c = rw c.new.ensures.items left_of-nil
