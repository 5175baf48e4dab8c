use Rattle.client_messages.proofs.Notices.{notified_first}
use Rattle.client_messages.proofs.laws.the_first_unread_is_notified.Goals as goal

pub returns : goal.returns
returns c = notified_first
