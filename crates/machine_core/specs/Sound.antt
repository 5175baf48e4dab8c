-- What always holds of the player beside the queue.
use Rattle.std.specs.Prelude.{◌≡◌, ℕ, ◌≤◌, Bool, true, false, ◌==◌, List, [], ◌∷◌, IfSome}
use Rattle.std.specs.List.{list_any, AllByRecursion}
use Rattle.play_queue.specs.Queue.{IsQueue}
use Rattle.play_queue.specs.declared.entry.Entry.{Entry}
use Rattle.player_core.specs.Player.{PlayerState}
use Rattle.machine_core.specs.Followed.{current_row}
use Rattle.machine_core.specs.State.{MachineState}

-- an entry of the queue has the id
abbrev pub is_in_queue : List Entry → ℕ → Bool
is_in_queue entries id = list_any (λ entry. entry.id == id) entries

abbrev pub IsIn : List Entry → ℕ → Type 0
IsIn entries id = is_in_queue entries id ≡ true

-- no id stands twice
abbrev pub AreOwn : List ℕ → Type 0
AreOwn [] = Unit {0}
AreOwn (id ∷ ids) = AllByRecursion (λ other. (id == other) ≡ false) ids × AreOwn ids

-- The current song stands in the queue, and so do the played ones, each of which is played once; without random none is.
pub record IsSoundPlayer (entries : List Entry) (random : Bool) (player : PlayerState) : Type 0 where
  pub current : IfSome player.current (IsIn entries)
  pub played : AllByRecursion (IsIn entries) player.played
  pub once : AreOwn player.played
  pub ordered : random ≡ false → player.played ≡ []

abbrev pub IsSound : MachineState → Type 0
IsSound m = IsSoundPlayer m.saved.queue.entries m.saved.options.random m.player

-- the frame position is at most the frames of the song that is current
abbrev pub IsWithinSong : MachineState → Type 0
IsWithinSong m = IfSome (current_row m.saved m.player) (λ row. m.player.frame ≤ row.frames)

-- beside a queue, whose ids differ, so that each entry is found by its own
pub record IsSoundMachine (m : MachineState) : Type 0 where
  pub queue : IsQueue m.saved.queue
  pub sound : IsSound m
  pub frame : IsWithinSong m
