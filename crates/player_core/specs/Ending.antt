-- What follows a song that has ended, or that a listener leaves.
use Rattle.std.specs.Prelude.{ℕ, ◌+◌, Bool, true, false, not, ◌&&◌, ◌==◌, List, [], Option, Some, None, if◌then◌else◌}
use Rattle.play_queue.specs.declared.entry.Entry.{Entry}
use Rattle.player_core.specs.declared.block.Block.{Block}
use Rattle.player_core.specs.declared.choice.Choice.{Choice}
use Rattle.player_core.specs.declared.manners.Manners.{Manners}
use Rattle.player_core.specs.declared.manners.Manners.TheVariants.{Named, Mpd}
use Rattle.player_core.specs.declared.options.Options.{Options}
use Rattle.player_core.specs.declared.options.Single.{Single}
use Rattle.player_core.specs.declared.options.Single.TheVariants.{Off, On, Oneshot}
use Rattle.player_core.specs.declared.playing.PlayState.{PlayState}
use Rattle.player_core.specs.declared.playing.PlayState.TheVariants.{Stop, Play, Pause}
use Rattle.player_core.specs.declared.settings.PlaySettings.{PlaySettings}
use Rattle.player_core.specs.Choice.{chosen, nothing, this_round, placed}
use Rattle.player_core.specs.Player.{PlayerState, Step, unchanged, stopped, gone_on, left_out}

-- an option that is on, or on once
abbrev pub is_on : Single → Bool
is_on Off = false
is_on On = true
is_on Oneshot = true

abbrev pub is_oneshot : Single → Bool
is_oneshot Off = false
is_oneshot On = false
is_oneshot Oneshot = true

-- under consume the ended entry leaves the queue
abbrev pub consumed : Bool → ℕ → Block
consumed true at = record { start = at; end = at + 1 }
consumed false at = record { start = 0; end = 0 }

-- single, on or once: under consume nothing is started; else, with repeat, the same song again; else the song
-- stays current
abbrev pub after_single : Bool → Bool → ℕ → Option Choice
after_single true repeat current = Some nothing
after_single false true current = Some (this_round (Some current))
after_single false false current = None

-- MPD: with repeat and without consume the same song again; else what follows without single
abbrev pub single_by : Manners → Bool → Bool → ℕ → Choice → Option Choice
single_by Named consume repeat current next = after_single consume repeat current
single_by Mpd consume repeat current next = Some (if not consume && repeat then this_round (Some current) else next)

-- MPD: with single, with repeat and without consume a song is followed by itself alone
abbrev pub repeats_one : Manners → Options → Bool
repeats_one Named options = false
repeats_one Mpd options = is_on options.single && (options.repeat && not (is_on options.consume))

abbrev pub waits_as : Manners → Bool → Bool
waits_as Named repeat = false
waits_as Mpd repeat = not repeat

-- MPD: with single and without repeat what follows is paused at its first frame
abbrev pub waits : Single → Manners → Bool → Bool
waits Off manners repeat = false
waits On manners repeat = waits_as manners repeat
waits Oneshot manners repeat = waits_as manners repeat

abbrev pub held : PlayState → PlayState
held Stop = Stop
held Play = Pause
held Pause = Pause

abbrev pub held_if : Bool → PlayerState → PlayerState
held_if false player = player
held_if true player = record player { state = held player.state }

abbrev pub is_paused : PlayState → Bool
is_paused Stop = false
is_paused Play = false
is_paused Pause = true

abbrev pub turns_off_as : Manners → PlayState → Bool
turns_off_as Named after = true
turns_off_as Mpd after = is_paused after

-- `oneshot` of single is then off; MPD: where what follows is paused
abbrev pub turns_off : Single → Manners → PlayState → Bool
turns_off Off manners after = false
turns_off On manners after = false
turns_off Oneshot manners after = turns_off_as manners after

-- what is started after the current entry, whose position and id these are; none where the player stops and
-- the song stays current
abbrev pub followed_by : PlaySettings → Single → List Entry → List ℕ → ℕ → ℕ → Option Choice
followed_by settings Off entries played at current = Some (chosen settings entries
    (consumed (is_on settings.options.consume) at) [] played at current)
followed_by settings On entries played at current =
    single_by settings.manners (is_on settings.options.consume) settings.options.repeat current
    (chosen settings entries (consumed (is_on settings.options.consume) at) [] played at current)
followed_by settings Oneshot entries played at current =
    single_by settings.manners (is_on settings.options.consume) settings.options.repeat current
    (chosen settings entries (consumed (is_on settings.options.consume) at) [] played at current)

abbrev pub gone_on_or_stopped : Bool → PlayerState → Option Choice → PlayerState
gone_on_or_stopped random player None = stopped player
gone_on_or_stopped random player (Some choice) = gone_on random player choice

abbrev pub order_of : Option Choice → Option ℕ
order_of None = None
order_of (Some choice) = choice.order

-- The song at a position is over: what follows is found before the entry leaves the queue under consume, whose `oneshot` is then off,
-- since it has removed its one entry.
abbrev pub over_at : List Entry → PlaySettings → Single → PlayerState → Option (ℕ × ℕ) → Step
over_at entries settings single player None = unchanged player
over_at entries settings single player (Some place) =
    let next = followed_by settings single entries player.played place.0 place.1 in
    let after = held_if (waits single settings.manners settings.options.repeat) (gone_on_or_stopped settings.options.random
    (left_out (consumed (is_on settings.options.consume) place.0) [] entries player) next) in
    record {
      player = after;
      changes = record {
        order = order_of next;
        removed = if is_on settings.options.consume then Some place.0 else None;
        single_off = turns_off single settings.manners after.state;
        consume_off = is_oneshot settings.options.consume;
      };
    }

abbrev pub over : List Entry → PlaySettings → Single → PlayerState → Step
over entries settings single player = over_at entries settings single player (placed entries player.current)

-- Ended counts in play, with the present ticket
abbrev pub ended_in : PlayState → List Entry → PlaySettings → PlayerState → ℕ → Step
ended_in Stop entries settings player ticket = unchanged player
ended_in Pause entries settings player ticket = unchanged player
ended_in Play entries settings player ticket =
    if player.ticket == ticket then over entries settings settings.options.single player else unchanged player

abbrev pub ended : List Entry → PlaySettings → PlayerState → ℕ → Step
ended entries settings player ticket = ended_in player.state entries settings player ticket
