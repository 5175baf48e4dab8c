use Rattle.daemon_core.proofs.FullLaws.{MachineFull, stays_full, told_so}
use Rattle.daemon_core.proofs.laws.without_room_nothing_saved.Goals as goal

pub returns : goal.returns
returns c =
    let law = c.without_room_nothing_saved.ensures in
    let known : MachineFull = record {
      command = law.command;
      ended = law.ended;
      broken = law.broken;
      found = law.found;
      kept_at = law.kept_at;
    } in
    record {
      saved = λ s event refused lacks brings. (stays_full known s event refused lacks brings).saved;
      ops = λ s event refused lacks brings. (stays_full known s event refused lacks brings).ops;
      lasts = λ s event refused lacks brings. (stays_full known s event refused lacks brings).lacks;
      told = told_so;
    }
