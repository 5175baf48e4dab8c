-- After any history the player is sound, and its frame position is within the song that is current.
use Rattle.std.proofs.Common.{List, refl}
use Rattle.machine_core.specs.Sound.{IsSound, IsSoundMachine}
use Rattle.state_codec.specs.SavedState.{SavedState, IsSavedState}
use Rattle.daemon_core.specs.Replay.{Entry, replay}
use Rattle.daemon_core.proofs.Lasting.{IsKept, lasts}

pub sound : IsKept IsSound → (kept : SavedState) (history : List Entry) → IsSound (replay kept history).machine
sound keeps kept history =
    lasts IsSound keeps kept (record { current = tt; played = tt; once = tt; ordered = λ off. refl }) history

pub within : IsKept IsSoundMachine → (kept : SavedState) (history : List Entry) → IsSavedState kept
    → IsSoundMachine (replay kept history).machine
within keeps kept history saved =
    lasts IsSoundMachine keeps kept (record {
      queue = saved.queue.queue;
      sound = record { current = tt; played = tt; once = tt; ordered = λ off. refl };
      frame = tt;
    }) history
