use Rattle.machine_core.proofs.Lists.Rows.{pushed}
use Rattle.machine_core.proofs.named.numbers_from.Goals as goal

pub loop-number-preserved : goal.loop-number-preserved
loop-number-preserved c =
    let at = c.loop-number in
    let run = pushed c.args.first at.number at.numbers.items c.push.new.self.items at.invariant.items at.invariant.next
    c.in_ok-push.ensures.items in
    record { items = run.0; next = run.1 }
