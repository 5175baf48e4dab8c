-- The player: what plays, how a song is started, how the player stops.
use Rattle.std.specs.Prelude.{ℕ, ◌+◌, Bool, false, ◌==◌, List, [], ◌∷◌, ◌++◌, Option, Some, None, if◌then◌else◌}
use Rattle.std.specs.Set.{remove_key}
use Rattle.play_queue.specs.declared.entry.Entry.{Entry}
use Rattle.play_queue.specs.Entries.{Uris}
use Rattle.player_core.specs.declared.block.Block.{Block}
use Rattle.player_core.specs.declared.changes.Changes.{Changes}
use Rattle.player_core.specs.declared.choice.Choice.{Choice}
use Rattle.player_core.specs.declared.failure.PlayFailure.{PlayFailure}
use Rattle.player_core.specs.declared.playing.PlayState.{PlayState}
use Rattle.player_core.specs.declared.playing.PlayState.TheVariants.{Stop, Play}
use Rattle.player_core.specs.declared.playing.Playing.{Playing}
use Rattle.player_core.specs.Staying.{takes}

-- stop, play or pause; the id of the current entry; the ticket of the last start or seek; the frame position;
-- the ids that were started in this random round, by their last start; the error; how many entries in a row could not be read, up to
-- the present one
pub record PlayerState : Type 0 where
  pub state : PlayState
  pub current : Option ℕ
  pub ticket : ℕ
  pub frame : ℕ
  pub played : List ℕ
  pub error : Option PlayFailure
  pub failures : ℕ

-- the player, and what it changes of the saved half
pub record Step : Type 0 where
  pub player : PlayerState
  pub changes : Changes

abbrev pub player_of : Playing → List ℕ → PlayerState
player_of playing played = record {
  state = playing.state;
  current = playing.current;
  ticket = playing.ticket;
  frame = playing.frame;
  played = played;
  error = playing.error;
  failures = playing.failures;
}

abbrev pub no_changes : Changes
no_changes = record { order = None; removed = None; single_off = false; consume_off = false }

abbrev pub unchanged : PlayerState → Step
unchanged player = record { player = player; changes = no_changes }

-- tickets begin at 1; 1 follows the greatest
abbrev pub next_ticket : ℕ → ℕ
next_ticket ticket = if ticket == 18446744073709551615 then 1 else ticket + 1

abbrev pub without : ℕ → List ℕ → List ℕ
without id played = remove_key (λ other. id == other) played

-- in random mode an id that is started goes to the end of the played list
abbrev pub noted : Bool → ℕ → List ℕ → List ℕ
noted random id played = if random then without id played ++ id ∷ [] else played

-- a started song has a new ticket and frame 0, and clears the error and the failures before it
abbrev pub started : Bool → PlayerState → ℕ → PlayerState
started random player id = record {
  state = Play;
  current = Some id;
  ticket = next_ticket player.ticket;
  frame = 0;
  played = noted random id player.played;
  error = None;
  failures = 0;
}

-- the song stays current
abbrev pub stopped : PlayerState → PlayerState
stopped player = record player { state = Stop; frame = 0 }

abbrev pub stopped_without_song : PlayerState → PlayerState
stopped_without_song player = record player { state = Stop; current = None; frame = 0 }

-- a random round that begins empties the played list
abbrev pub in_round : Option ℕ → PlayerState → PlayerState
in_round None player = player
in_round (Some order) player = record player { played = [] }

abbrev pub gone_to : Bool → PlayerState → Option ℕ → PlayerState
gone_to random player None = stopped_without_song player
gone_to random player (Some id) = started random player id

-- what was chosen is started; where that is nothing, the player stops without a current song
abbrev pub gone_on : Bool → PlayerState → Choice → PlayerState
gone_on random player choice = gone_to random (in_round choice.order player) choice.id

-- the ids of the entries that leave the queue leave the played list; the first entry stands at a position
abbrev pub left_by : Block → Uris → ℕ → List Entry → List ℕ → List ℕ
left_by block dropped at [] played = played
left_by block dropped at (entry ∷ entries) played =
    left_by block dropped (at + 1) entries (if takes block dropped at entry then without entry.id played else played)

abbrev pub left_out : Block → Uris → List Entry → PlayerState → PlayerState
left_out block dropped entries player = record player { played = left_by block dropped 0 entries player.played }
