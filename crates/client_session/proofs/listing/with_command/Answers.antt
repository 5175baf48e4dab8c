use Rattle.std.proofs.Common.{sym, ◌∙◌}
use Rattle.client_session.proofs.ListLaws.{one_more}
use Rattle.client_session.proofs.listing.with_command.Goals as goal

pub returns-clause-within : goal.returns-clause-within
returns-clause-within c = rw c.in_ok-push.ensures.ok (one_more _ _ (sym c.has_room.ensures ∙ c.if-not-has_room.false))
