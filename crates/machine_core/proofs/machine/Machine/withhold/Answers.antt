use Rattle.std.proofs.Common.{true, ◌∙◌}
use Rattle.machine_core.specs.Held.{held}
use Rattle.machine_core.proofs.Missing.{job_withheld, withheld_state}
use Rattle.machine_core.proofs.machine.Machine.withhold.Goals as goal

pub returns : goal.returns
returns c =
    let m = c.args.self.now in
    job_withheld c.args.withheld.missing m _ _
    (withheld_state m (held c.self-2.inside) c.show.new.self c.args.withheld (c.self-2.view_is ∙ c.end_job.ensures) c.show.ensures
    c.requires)
    c.new.ensures.items
    (λ i. record (c.none-changed.ensures i) { update = true; player = true; database = (c.self.view_is i).job.has_changed_a_row })
