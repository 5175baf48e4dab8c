-- Songs in a row that can't be read.
use Rattle.std.specs.Prelude.{◌≡◌, ◌⊎◌, ℕ, zero, suc, false, length, None}
use Rattle.player_core.specs.declared.failure.BrokenCause.TheVariants.{Source}
use Rattle.player_core.specs.declared.playing.PlayState.TheVariants.{Stop}
use Rattle.player_core.specs.Order.{current_entry}
use Rattle.player_core.specs.Reports.{failed}
use Rattle.player_core.specs.Round.{Playback, after}

-- the report, under the present ticket, that the current song can't be read
abbrev pub after_failure : Playback → Playback
after_failure now = after now (failed now.entries now.settings now.player now.player.ticket Source)

abbrev pub after_failures : ℕ → Playback → Playback
after_failures zero now = now
after_failures (suc count) now = after_failures count (after_failure now)

-- there is nothing to play
abbrev pub IsAtRest : Playback → Type 0
IsAtRest now = (now.player.state ≡ Stop) ⊎ (current_entry now.entries now.player.current ≡ None)

-- By any manners, and all options but random, as many songs in a row that can't be read as the queue has entries bring the player to rest.
abbrev pub BadSongsEnd : Type 0
BadSongsEnd = (now : Playback) → now.settings.options.random ≡ false → IsAtRest (after_failures (length now.entries) now)
