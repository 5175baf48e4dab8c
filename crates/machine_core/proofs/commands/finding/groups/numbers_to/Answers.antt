use Rattle.std.proofs.Common.{◌∙◌, arith}
use Rattle.machine_core.proofs.Finding.Groups.{range_more}
use Rattle.machine_core.proofs.commands.finding.groups.numbers_to.Goals as goal

pub loop-number-preserved : goal.loop-number-preserved
loop-number-preserved c =
    let at = c.loop-number in
    record {
      numbers = range_more at.numbers.items _ at.number c.args.count (omega arith) c.in_ok-push.ensures.items ∙ at.invariant.numbers;
      within = omega arith;
    }
