use Rattle.client_session.proofs.StreamLaws.{continues, holds}
use Rattle.client_session.proofs.session.Session.feed.Goals as goal

pub returns-in-Ok-clause-stream : goal.returns-in-Ok-clause-stream
returns-in-Ok-clause-stream c = rw (← c.self.view_is) (continues _ _ _ _ c.in-Ok.ensures.requests c.in-Ok.ensures.left)

pub returns-in-Ok-clause-held : goal.returns-in-Ok-clause-held
returns-in-Ok-clause-held c =
    holds _ _ _ _ _ c.self.invariant.unended c.in-Ok.ensures.within c.in-Ok.ensures.left c.in-Ok.ensures.fault
