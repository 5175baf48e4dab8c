-- What the output is to do.
use Rattle.std.specs.Prelude.{ℕ, ◌==◌, List, Option, Some, None}
use Rattle.std.specs.List.{find}
use Rattle.play_queue.specs.declared.entry.Entry.{Entry}
use Rattle.player_core.specs.declared.order.Order.{Order}
use Rattle.player_core.specs.declared.order.Order.TheVariants.{Wait, Play as PlayIt}
use Rattle.player_core.specs.declared.playing.PlayState.{PlayState}
use Rattle.player_core.specs.declared.playing.PlayState.TheVariants.{Stop, Play, Pause}
use Rattle.player_core.specs.Player.{PlayerState}

-- the current entry
abbrev pub current_entry : List Entry → Option ℕ → Option Entry
current_entry entries None = None
current_entry entries (Some id) = find (λ entry. entry.id == id) entries

-- to play the entry from the frame position on
abbrev pub to_play : ℕ → PlayerState → Option Entry → Order
to_play volume player None = Wait
to_play volume player (Some entry) =
    PlayIt (record { ticket = player.ticket; uri = entry.uri; first_frame = player.frame; volume = volume })

abbrev pub order_in : PlayState → ℕ → PlayerState → Option Entry → Order
order_in Stop volume player entry = Wait
order_in Pause volume player entry = Wait
order_in Play volume player entry = to_play volume player entry

-- in play to play the current song; else to wait
abbrev pub order_of : List Entry → ℕ → PlayerState → Order
order_of entries volume player = order_in player.state volume player (current_entry entries player.current)
