use Rattle.machine_core.proofs.Edits.{refused_failed}
use Rattle.machine_core.proofs.machine.Machine.delete_entries.Goals as goal

pub returns-in_err-would_change-clause-performs : goal.returns-in_err-would_change-clause-performs
returns-in_err-would_change-clause-performs c =
    refused_failed _ c.args.self.now c.args.work.now c.in_err-would_change.field-0.0 c.from_residual.result
    c.in_err-would_change.ensures.refused c.from_residual.ensures.1
