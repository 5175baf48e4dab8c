-- What stays so, whatever is called: the clients stand by rising number, and each is within the limits.
use Rattle.std.specs.Prelude.{◌≤◌, length, List, All, AllPairs, IsTrue, IsFalse}
use Rattle.std.specs.Str.{bytes_eq}
use Rattle.client_messages.specs.Channel.{is_channel_name}
use Rattle.client_messages.specs.Limits.{MAX_CHANNELS}
use Rattle.client_messages.specs.Listeners.{IsRising}
use Rattle.client_messages.specs.Messages.{IsWithinLimits}
use Rattle.client_messages.specs.declared.listener.Listener.{Listener}

-- not too many channels, each with a good name and none twice, and not too much unread
pub record IsLimited (l : Listener) : Type 0 where
  pub few : length l.channels ≤ MAX_CHANNELS
  pub named : All (λ name. IsTrue (is_channel_name name)) l.channels
  pub distinct : AllPairs (λ one other. IsFalse (bytes_eq one other)) l.channels
  pub unread : IsWithinLimits l.unread

pub record AreLimited (ls : List Listener) : Type 0 where
  pub rising : IsRising ls
  pub each : All IsLimited ls
