-- A round: `play`, and then each song to its end, where the edits that the player answers are made.
use Rattle.std.specs.Prelude.{◌≡◌, ℕ, ◌+◌, Bool, true, false, List, [], ◌∷◌, map, Option, Some, None, unwrap_or, if◌then◌else◌}
use Rattle.play_queue.specs.declared.entry.Entry.{Entry}
use Rattle.play_queue.specs.Entries.{deleted}
use Rattle.play_queue.specs.Queue.{HaveOwnIds}
use Rattle.player_core.specs.declared.changes.Changes.{Changes}
use Rattle.player_core.specs.declared.options.Options.{Options}
use Rattle.player_core.specs.declared.options.Single.{Single}
use Rattle.player_core.specs.declared.options.Single.TheVariants.{Off}
use Rattle.player_core.specs.declared.playing.PlayState.TheVariants.{Stop, Play}
use Rattle.player_core.specs.declared.settings.PlaySettings.{PlaySettings}
use Rattle.player_core.specs.Words.{next_order}
use Rattle.player_core.specs.RandomOrder.{random_order}
use Rattle.player_core.specs.Choice.{drawn_by}
use Rattle.player_core.specs.Player.{PlayerState, Step}
use Rattle.player_core.specs.Ending.{ended}
use Rattle.player_core.specs.Commands.{resumed}

-- the entries of the queue, the settings and the player
pub record Playback : Type 0 where
  pub entries : List Entry
  pub settings : PlaySettings
  pub player : PlayerState

abbrev pub left_after : Option ℕ → List Entry → List Entry
left_after None entries = entries
left_after (Some at) entries = deleted entries at (at + 1)

abbrev pub off_if : Bool → Single → Single
off_if falls option = if falls then Off else option

abbrev pub settings_after : Changes → PlaySettings → PlaySettings
settings_after changes settings = record settings {
  order = unwrap_or changes.order settings.order;
  options = record settings.options {
    single = off_if changes.single_off settings.options.single;
    consume = off_if changes.consume_off settings.options.consume;
  };
}

-- the player after a call, and what the call changes is changed
abbrev pub after : Playback → Step → Playback
after now step = record {
  entries = left_after step.changes.removed now.entries;
  settings = settings_after step.changes now.settings;
  player = step.player;
}

-- `play` without an argument
abbrev pub after_play : Playback → Playback
after_play now = after now (resumed now.player.state now.entries now.settings now.player)

-- the report, under the present ticket, that the current song has ended
abbrev pub after_end : Playback → Playback
after_end now = after now (ended now.entries now.settings now.player now.player.ticket)

abbrev pub IsPlaying : ℕ → PlayerState → Type 0
IsPlaying id player = (player.state ≡ Play) × (player.current ≡ Some id)

abbrev pub IsWithoutSong : PlayerState → Type 0
IsWithoutSong player = (player.state ≡ Stop) × (player.current ≡ None)

-- the queue being this one, these songs play, one after the other and each to its end, and then the player stops
abbrev pub PlaysOut : List Entry → List ℕ → Playback → Type 0
PlaysOut queue [] now = (now.entries ≡ queue) × IsWithoutSong now.player
PlaysOut queue (id ∷ ids) now = (now.entries ≡ queue) × IsPlaying id now.player × PlaysOut queue ids (after_end now)

-- random is on, the other options are off
abbrev pub random_alone : Options
random_alone = record { repeat = false; random = true; single = Off; consume = Off }

-- the ids of all entries in random order, their words drawn under an order number
abbrev pub round_of : List ℕ → ℕ → List Entry → List ℕ
round_of key order entries = random_order (map (drawn_by key order) entries)

-- `play` from no current song, with random alone: all entries play, each once, in the random order of the new order number
abbrev pub ARoundIsTheRandomOrder : Type 0
ARoundIsTheRandomOrder =
    (now : Playback) → HaveOwnIds now.entries → now.settings.options ≡ random_alone → IsWithoutSong now.player
    → PlaysOut now.entries (round_of now.settings.key (next_order now.settings.order) now.entries) (after_play now)
