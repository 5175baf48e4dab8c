use Rattle.std.proofs.Common.{refl, rules}
use Rattle.client_session.proofs.Sessions.{sent_in_order, kept_in_order, appends_nothing}
use Rattle.client_session.proofs.session.Session.send_some.Goals as goal

pub returns-then-is_empty-clause-in_order : goal.returns-then-is_empty-clause-in_order
returns-then-is_empty-clause-in_order g c = kept_in_order _ _

pub returns-then-is_empty-clause-sent : goal.returns-then-is_empty-clause-sent
returns-then-is_empty-clause-sent g c = (search rules, refl, appends_nothing _)

pub returns-clause-in_order : goal.returns-clause-in_order
returns-clause-in_order g c = rw (← c.self.view_is, c.drop_sent.ensures)
    (sent_in_order _ _ _ _ (rw c.as_slice.ensures at c.in_ok-sent.ensures.bytes))
