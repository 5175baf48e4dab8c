use Rattle.machine_core.specs.Restart.{IsKeptMachine}
use Rattle.daemon_core.specs.Replay.{replay}
use Rattle.daemon_core.proofs.Lasting.{IsKept}
use Rattle.daemon_core.proofs.RestartLaws.{kept_machine, machine_goes_on}
use Rattle.daemon_core.proofs.laws.a_restart_goes_on.Goals as goal

pub returns : goal.returns
returns c =
    let stays = c.kept_place_stays_in_step.ensures in
    let keeps : IsKept IsKeptMachine = record {
      command = stays.command;
      fed = stays.fed;
      ended = stays.ended;
      broken = stays.broken;
      found = stays.found;
      missed = λ job missing m is. (stays.scanned job m is).1 missing;
      scanned = λ job m is. (stays.scanned job m is).0;
      clocked = stays.clocked;
      kept_at = stays.kept_at;
      resumed = stays.resumed;
      told = stays.told;
    } in
    record {
      sound = λ kept history saved wide sound. (kept_machine keeps kept history saved wide sound).sound;
      goes_on = λ kept history plays saved wide sound room begun.
          machine_goes_on c.a_restart_goes_on.ensures plays (replay kept history).machine
          (kept_machine keeps kept history saved wide sound) room begun;
    }
