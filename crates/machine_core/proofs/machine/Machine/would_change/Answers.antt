use Rattle.std.proofs.Common.{ap}
use Rattle.state_codec.specs.Applied.{refusal_of}
use Rattle.machine_core.specs.State.{MachineState}
use Rattle.machine_core.proofs.Edits.{allowed_by, refused_edits, looked_at}
use Rattle.machine_core.proofs.machine.Machine.would_change.Goals as goal

pub returns-in_err-check-clause-refused : goal.returns-in_err-check-clause-refused
returns-in_err-check-clause-refused c =
    let same = ap (λ (m : MachineState). m.saved) c.self.view_is in
    refused_edits c.args.op.now c.args.self.now c.in_err-check.field-0.0 c.from_residual.result
    (rw same at c.in_err-check.ensures.answer) c.from_residual.ensures.1

pub returns-clause-changes : goal.returns-clause-changes
returns-clause-changes c =
    let same = ap (λ (m : MachineState). m.saved) c.self.view_is in
    let fits = allowed_by (refusal_of c.args.op.now c.self.inside.saved) c.in_ok-check.field-0 c.in_ok-check.ensures.answer in
    looked_at c.args.op.now c.args.self.now c.in_ok-check.field-0 (rw same at fits) (rw same at c.in_ok-check.ensures.changes)
