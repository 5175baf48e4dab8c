-- What holds of the kept place beside the player, so that a restart finds the song, the round and the state.
use Rattle.std.specs.Prelude.{◌≡◌, ℕ, Bool, true, false, ◌==◌, ◌||◌, ◌⊎◌, List, [], Some, None, is_some, unwrap_or}
use Rattle.std.specs.List.{AllByRecursion}
use Rattle.play_queue.specs.declared.entry.Entry.{Entry}
use Rattle.player_core.specs.Place.{PlaceState, resumed_state}
use Rattle.player_core.specs.Player.{PlayerState}
use Rattle.player_core.specs.declared.playing.PlayState.TheVariants.{Stop, Play}
use Rattle.profile.specs.declared.profile.Profile.TheVariants.{Wide}
use Rattle.state_codec.specs.SavedState.{SavedState}
use Rattle.machine_core.specs.Sound.{is_in_queue, IsIn, AreOwn, IsSoundMachine}
use Rattle.machine_core.specs.State.{MachineState, lacks_room}

-- the song of the place and its round stand in the queue, and each id of the round once; without random there is no round
pub record IsSoundPlace (entries : List Entry) (random : Bool) (place : PlaceState) : Type 0 where
  pub song : (place.song == 0 || is_in_queue entries place.song) ≡ true
  pub played : AllByRecursion (IsIn entries) place.played
  pub once : AreOwn place.played
  pub ordered : random ≡ false → place.played ≡ []

-- such is the place of a saved state, if it has one
abbrev pub HasSoundPlace : SavedState → Type 0
HasSoundPlace s = (place : PlaceState) → s.place ≡ Some place → IsSoundPlace s.queue.entries s.options.random place

-- nothing was started in this life
pub record IsIdle (player : PlayerState) : Type 0 where
  pub state : player.state ≡ Stop
  pub current : player.current ≡ None
  pub ticket : player.ticket ≡ 0
  pub played : player.played ≡ []

-- The player has the song of the place and its round, and with a song its state, or is paused where the place has it play, as it may be
-- where it went on from there.
pub record IsThere (player : PlayerState) (place : PlaceState) : Type 0 where
  pub plays : Bool
  pub state : (place.song == 0) ≡ false → player.state ≡ resumed_state plays place.state
  pub song : place.song ≡ unwrap_or player.current 0
  pub played : place.played ≡ player.played

pub record IsKeptPlace (m : MachineState) (place : PlaceState) : Type 0 where
  pub sound : IsSoundPlace m.saved.queue.entries m.saved.options.random place
  pub here : (IsIdle m.player) ⊎ (IsThere m.player place)

-- the place that a machine keeps is where its player is, once one was started
abbrev pub IsInStep : MachineState → Type 0
IsInStep m = (place : PlaceState) → m.saved.place ≡ Some place → IsKeptPlace m place

-- A machine of the wide profile, which has a place that is sound, beside a queue and a sound player: where there is room for what changes,
-- the place is where the player is.
pub record IsKeptMachine (m : MachineState) : Type 0 where
  pub wide : m.saved.profile ≡ Wide
  pub has : is_some m.saved.place ≡ true
  pub holds : IsSoundMachine m
  pub sound : HasSoundPlace m.saved
  pub step : lacks_room m ≡ false → IsInStep m

-- The player that goes on in the next life has the song and the round of the one before; with a song it is paused where that played or was
-- paused, or else, if it is to play on, plays where that played; and it is stopped where that was.
pub record GoesOnAs (plays : Bool) (before again : PlayerState) : Type 0 where
  pub current : again.current ≡ before.current
  pub played : again.played ≡ before.played
  pub paused : plays ≡ false → (id : ℕ) → before.current ≡ Some id → again.state ≡ resumed_state false before.state
  pub plays_on : plays ≡ true → (id : ℕ) → before.current ≡ Some id → before.state ≡ Play → again.state ≡ Play
  pub stopped : (id : ℕ) → before.current ≡ Some id → before.state ≡ Stop → again.state ≡ Stop
