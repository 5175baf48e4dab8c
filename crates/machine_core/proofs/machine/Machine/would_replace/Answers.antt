use Rattle.std.proofs.Common.{ap}
use Rattle.machine_core.specs.State.{MachineState}
use Rattle.machine_core.proofs.Replacing.{refused_replaces, replaces_if}
use Rattle.machine_core.proofs.machine.Machine.would_replace.Goals as goal

pub returns-in_err-check_replace-clause-refused : goal.returns-in_err-check_replace-clause-refused
returns-in_err-check_replace-clause-refused c =
    let same = ap (λ (m : MachineState). m.saved) c.self.view_is in
    refused_replaces c.args.name.now c.args.self.now c.in_err-check_replace.field-0.0 c.from_residual.result
    (rw same at c.key-key.ensures.kept) (rw same at c.in_err-check_replace.ensures) c.from_residual.ensures.1

pub returns-clause-changes : goal.returns-clause-changes
returns-clause-changes c =
    let same = ap (λ (m : MachineState). m.saved) c.self.view_is in
    replaces_if c.args.name.now c.args.self.now c.in_ok-check_replace.field-0 c.replaces_nothing.result
    (rw same at c.key-key.ensures.kept) (rw same at c.in_ok-check_replace.ensures) (rw same at c.replaces_nothing.ensures)
