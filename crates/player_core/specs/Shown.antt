-- What is shown of the player beside the queue.
use Rattle.std.specs.Prelude.{ℕ, ◌&&◌, false, List, [], Option, Some, None, if◌then◌else◌}
use Rattle.play_queue.specs.declared.entry.Entry.{Entry}
use Rattle.player_core.specs.declared.choice.Choice.{Choice}
use Rattle.player_core.specs.declared.manners.Manners.{Manners}
use Rattle.player_core.specs.declared.manners.Manners.TheVariants.{Named, Mpd}
use Rattle.player_core.specs.declared.settings.PlaySettings.{PlaySettings}
use Rattle.player_core.specs.declared.shown.Shown.{Shown}
use Rattle.player_core.specs.Choice.{chosen, this_round, placed}
use Rattle.player_core.specs.Ending.{consumed, followed_by, is_on}
use Rattle.player_core.specs.Player.{PlayerState}

-- the id of what is started, where no random round begins with it
abbrev pub in_this_round : Choice → Option ℕ → Option ℕ
in_this_round choice None = choice.id
in_this_round choice (Some order) = None

abbrev pub started_next : Option Choice → Option ℕ
started_next None = None
started_next (Some choice) = in_this_round choice choice.order

-- what the end of the current song would start now in play; MPD: what follows it in the order of songs, whatever single and consume do,
-- but with single and repeat the song itself
abbrev pub next_by : Manners → PlaySettings → List Entry → List ℕ → ℕ → ℕ → Option Choice
next_by Named settings entries played at current = followed_by settings settings.options.single entries played at current
next_by Mpd settings entries played at current =
    if is_on settings.options.single && settings.options.repeat then Some (this_round (Some current))
    else Some (chosen settings entries (consumed false at) [] played at current)

-- the current song's position, and the position and the id of the next one, if no random round begins with it
abbrev pub shown_at : List Entry → PlaySettings → List ℕ → Option (ℕ × ℕ) → Shown
shown_at entries settings played None = record { current = None; next = None }
shown_at entries settings played (Some place) = record {
  current = Some place.0;
  next = placed entries (started_next (next_by settings.manners settings entries played place.0 place.1));
}

abbrev pub shown : List Entry → PlaySettings → PlayerState → Shown
shown entries settings player = shown_at entries settings player.played (placed entries player.current)
