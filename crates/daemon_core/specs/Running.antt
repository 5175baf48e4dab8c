-- What always holds of the half of the state that begins anew with each start.
use Rattle.std.specs.Prelude.{◌≡◌, Bool, true, ◌||◌, List, is_some}
use Rattle.std.specs.List.{AllByRecursion}
use Rattle.client_messages.specs.declared.listener.Listener.{Listener}
use Rattle.idle_masks.specs.declared.watch.Watched.{Watched}
use Rattle.player_core.specs.Player.{PlayerState}
use Rattle.daemon_core.specs.Leaving.{is_one_of}
use Rattle.daemon_core.specs.Session.{numbers_of}
use Rattle.daemon_core.specs.Stray.{is_stop}

-- in play and in pause a song is current
abbrev pub has_song : PlayerState → Bool
has_song player = is_stop player.state || is_some player.current

-- the client of each of these is connected
abbrev pub AreConnected : List Watched → List Listener → Type 0
AreConnected clients listeners = AllByRecursion (λ l. is_one_of (numbers_of clients) l.client ≡ true) listeners
