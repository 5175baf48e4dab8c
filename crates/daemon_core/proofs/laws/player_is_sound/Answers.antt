use Rattle.machine_core.specs.Command.{meaning}
use Rattle.machine_core.proofs.FullLaws.{kept_under}
use Rattle.machine_core.specs.Sound.{IsSound}
use Rattle.daemon_core.proofs.Lasting.{IsKept}
use Rattle.daemon_core.proofs.SoundLaws.{sound}
use Rattle.daemon_core.proofs.laws.player_is_sound.Goals as goal

pub returns : goal.returns
returns c =
    let stays = c.player_stays_sound.ensures in
    let keeps : IsKept IsSound = record {
      command = λ mask command m x holds is. stays.command mask command m x holds (kept_under m (meaning mask command m) x is);
      fed = stays.fed;
      ended = stays.ended;
      broken = stays.broken;
      found = stays.found;
      missed = stays.missed;
      scanned = stays.scanned;
      kept_at = stays.kept_at;
      resumed = stays.resumed;
      told = stays.told;
      clocked = λ time m h. h;
    } in
    record {
      current = λ kept history. (sound keeps kept history).current;
      played = λ kept history. (sound keeps kept history).played;
      once = λ kept history. (sound keeps kept history).once;
      without_random = λ kept history. (sound keeps kept history).ordered;
    }
