use Rattle.client_messages.proofs.Limited.{none_limited, subscribed_limited, unsubscribed_limited, sent_limited, read_limited, left_limited}
use Rattle.client_messages.proofs.laws.limits_are_kept.Goals as goal

pub returns : goal.returns
returns c = record {
  none = none_limited;
  subscribed = subscribed_limited;
  unsubscribed = unsubscribed_limited;
  sent = sent_limited;
  read = read_limited;
  left = left_limited;
}
