use Rattle.std.proofs.Common.{[], sym, refl}
use Rattle.machine_core.specs.Steps.{step_full}
use Rattle.machine_core.proofs.FullSteps.{unsaved_happened}
use Rattle.machine_core.proofs.machine.Machine.step_unsaved.Goals as goal

pub returns-clause-ok : goal.returns-clause-ok
returns-clause-ok c =
    let m = c.args.self.now in
    unsaved_happened (step_full c.args.step m) c.step_alone.result m c.step_alone.new.self _ c.before-before.result []
    c.before-before.ensures.kept (sym c.if-is_err.ensures.value) c.step_alone.ensures.ok c.new.ensures.items refl
    c.before-before.ensures.value c.changed_since-changed.ensures
