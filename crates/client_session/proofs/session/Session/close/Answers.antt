use Rattle.client_session.proofs.Sessions.{holds_nothing}
use Rattle.client_session.proofs.session.Session.close.Goals as goal

pub invariant_of-self : goal.invariant_of-self
invariant_of-self c = holds_nothing _ _ _ c.new.ensures.items c.new-2.ensures.items
