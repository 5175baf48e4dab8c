use Rattle.machine_core.specs.Command.{meaning}
use Rattle.machine_core.proofs.FullLaws.{kept_under}
use Rattle.machine_core.specs.Sound.{IsSoundMachine}
use Rattle.daemon_core.proofs.Lasting.{IsKept}
use Rattle.daemon_core.proofs.SoundLaws.{within}
use Rattle.daemon_core.proofs.laws.frame_is_within_the_song.Goals as goal

pub returns : goal.returns
returns c =
    let stays = c.frame_stays_within_the_song.ensures in
    let keeps : IsKept IsSoundMachine = record {
      command = λ mask command m x holds is. stays.command mask command m x holds (kept_under m (meaning mask command m) x is);
      fed = stays.fed;
      ended = stays.ended;
      broken = stays.broken;
      found = stays.found;
      missed = stays.missed;
      scanned = stays.scanned;
      kept_at = stays.kept_at;
      resumed = stays.resumed;
      told = stays.told;
      clocked = λ time m h. record { queue = h.queue; sound = h.sound; frame = h.frame };
    } in
    λ kept history saved. (within keeps kept history saved).frame
