use Rattle.client_messages.proofs.ForItself.{subscribed_for, unsubscribed_for, sent_for, read_for, left_for}
use Rattle.client_messages.proofs.laws.each_client_for_itself.Goals as goal

pub returns : goal.returns
returns c = record {
  subscribed = subscribed_for;
  unsubscribed = unsubscribed_for;
  sent = sent_for;
  read = read_for;
  left = left_for;
}
