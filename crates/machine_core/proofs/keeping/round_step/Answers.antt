use Rattle.std.proofs.Common.{◌-◌, length, refl, arith}
use Rattle.std.specs.Option.{option_to_list}
use Rattle.std.specs.Prelude.{slice_index_or}
use Rattle.machine_core.proofs.KeptSteps.{round_goes_on}
use Rattle.machine_core.proofs.keeping.round_step.Goals as goal

pub returns-in-len1-up : goal.returns-in-len1-up
returns-in-len1-up c =
    let played = c.args.played.now in
    round_goes_on c.args.before c.args.kept.now played (slice_index_or played (length played - 1) 0) (option_to_list c.leave_op.result)
    (omega arith) refl c.leave_op.ensures
