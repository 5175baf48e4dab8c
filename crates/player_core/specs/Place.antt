-- What is kept of the player: where it was, and what the random round has played.
use Rattle.std.specs.Prelude.{ℕ, ◌<◌, ◌≤◌, ◌^◌, Bool, false, not, ◌==◌, nat_lt, is_some, List, [], ◌∷◌, ◌++◌, length, filter, position, min}
use Rattle.std.specs.Prelude.{Option, Some, None, if◌then◌else◌}
use Rattle.std.specs.List.{All}
use Rattle.std.specs.Option.{option_map_or}
use Rattle.play_queue.specs.declared.entry.Entry.{Entry}
use Rattle.play_queue.specs.Entries.{Uris}
use Rattle.player_core.specs.declared.block.Block.{Block}
use Rattle.player_core.specs.declared.playing.PlayState.{PlayState}
use Rattle.player_core.specs.declared.playing.PlayState.TheVariants.{Stop, Play, Pause}
use Rattle.player_core.specs.Player.{PlayerState, noted}
use Rattle.player_core.specs.Reports.{takes_at}

-- stop, play or pause; the id of the current entry, 0 for none; the frame position; the ids that were started in this random round,
-- by their last start
pub record PlaceState : Type 0 where
  pub state : PlayState
  pub song : ℕ
  pub frame : ℕ
  pub played : List ℕ

abbrev pub no_place : PlaceState
no_place = record { state = Stop; song = 0; frame = 0; played = [] }

-- as many ids as the queue may have entries
abbrev pub longest_round : ℕ
longest_round = 65536

-- ids of 32 bits, and no more of them
pub record IsRound (ids : List ℕ) : Type 0 where
  pub few : length ids ≤ longest_round
  pub each : All (λ id. id < 2 ^ 32) ids

-- numbers in their range
pub record IsPlace (place : PlaceState) : Type 0 where
  pub song : place.song < 2 ^ 32
  pub frame : place.frame < 2 ^ 64
  pub played : IsRound place.played

abbrev pub without_id : ℕ → List ℕ → List ℕ
without_id id played = filter (λ other. not (id == other)) played

-- an id goes to the end of the round, unless that is full
abbrev pub with_last : ℕ → List ℕ → List ℕ
with_last id others = if nat_lt (length others) longest_round then others ++ id ∷ [] else others

abbrev pub with_id : ℕ → List ℕ → List ℕ
with_id id played = with_last id (without_id id played)

-- the position of the entry with an id
abbrev pub at_id : List Entry → ℕ → Option ℕ
at_id entries id = position (λ entry. entry.id == id) entries

-- the entry with an id leaves the queue
abbrev pub id_leaves : Block → Uris → List Entry → ℕ → Bool
id_leaves block dropped entries id = option_map_or (takes_at block dropped entries) (at_id entries id) false

abbrev pub without_song : PlaceState → PlaceState
without_song place = record place { state = Stop; song = 0; frame = 0 }

-- entries leave the queue: where the current one is among them, no song is current, and all their ids leave the round
abbrev pub place_left : Block → Uris → List Entry → PlaceState → PlaceState
place_left block dropped entries place =
    record (if id_leaves block dropped entries place.song then without_song place else place) {
      played = filter (λ id. not (id_leaves block dropped entries id)) place.played;
    }

-- a song that played is paused, unless it is to play on
abbrev pub resumed_state : Bool → PlayState → PlayState
resumed_state plays Stop = Stop
resumed_state plays Play = if plays then Play else Pause
resumed_state plays Pause = Pause

-- the ids that are still in the queue, behind those that are known
abbrev pub found_ids : List Entry → List ℕ → List ℕ → List ℕ
found_ids entries [] known = known
found_ids entries (id ∷ ids) known = found_ids entries ids (noted (is_some (at_id entries id)) id known)

-- the round that goes on; without random none does
abbrev pub resumed_round : Bool → List Entry → List ℕ → List ℕ
resumed_round random entries played = if random then found_ids entries played [] else []

abbrev pub resumed_at : Bool → ℕ → PlaceState → List ℕ → Option ℕ → PlayerState
resumed_at plays frames place played None = record {
  state = Stop;
  current = None;
  ticket = 1;
  frame = 0;
  played = played;
  error = None;
  failures = 0;
}
resumed_at plays frames place played (Some at) = record {
  state = resumed_state plays place.state;
  current = Some place.song;
  ticket = 1;
  frame = min place.frame frames;
  played = played;
  error = None;
  failures = 0;
}

-- the player that goes on from a place, whose song has so many frames; where the song isn't in the queue any more, it is
-- stopped without one
abbrev pub resumed : Bool → Bool → ℕ → List Entry → PlaceState → PlayerState
resumed plays random frames entries place =
    resumed_at plays frames place (resumed_round random entries place.played) (at_id entries place.song)
