use Rattle.std.proofs.Common.{true, sym}
use Rattle.machine_core.proofs.Scans.Laws.{scan_ended}
use Rattle.machine_core.proofs.machine.Machine.scan_done.Goals as goal

pub returns : goal.returns
returns c =
    let m = c.args.self.now in
    scan_ended c.args.job m _ c.before-before.result _ (sym c.if-not-runs_job.ensures)
    c.end_job.ensures c.before-before.ensures.value c.new.ensures.items
    (λ i. record (c.changed_since-changed.ensures i) { update = true; database = (c.self.view_is i).job.has_changed_a_row })
