use Rattle.std.proofs.Common.{[], ◌∙◌}
use Rattle.state_codec.specs.Steps.{◌>>=◌}
use Rattle.state_codec.specs.declared.op.Op.TheVariants.{List as OfLists}
use Rattle.state_codec.specs.declared.op.list_op.ListOp.TheVariants.{Rename}
use Rattle.machine_core.specs.Lists.{list_name, lists_meaning}
use Rattle.machine_core.specs.Meaning.{edits}
use Rattle.machine_core.proofs.Answering.{also}
use Rattle.machine_core.proofs.LookUps.{found, not_found}
use Rattle.machine_core.proofs.machine.Machine.rename_list.Goals as goal

pub returns-in_err-from : goal.returns-in_err-from
unfolding lists_meaning
returns-in_err-from c =
    let m = c.args.self.now in
    not_found (list_name c.args.from.now) (λ old. list_name c.args.to.now >>= λ new. edits (OfLists (Rename old new)) [] m) m
    c.args.work.now c.in_err-from.field-0.0 c.from_residual.result c.in_err-from.ensures c.from_residual.ensures.1

pub returns-in_err-to : goal.returns-in_err-to
unfolding lists_meaning
returns-in_err-to c =
    let m = c.args.self.now in
    let from = c.in_ok-from.from in
    also _ _ _ _ _ _ _
    (found (list_name c.args.from.now) (λ old. list_name c.args.to.now >>= λ new. edits (OfLists (Rename old new)) [] m) from
    c.in_ok-from.ensures)
    (not_found (list_name c.args.to.now) (λ new. edits (OfLists (Rename from new)) [] m) m c.args.work.now c.in_err-to.field-0.0
    c.from_residual-in_err-to.result c.in_err-to.ensures c.from_residual-in_err-to.ensures.1)

pub returns : goal.returns
unfolding lists_meaning
returns c =
    let m = c.args.self.now in
    let from = c.in_ok-from.from in
    also _ _ _ _ _ _ _
    (found (list_name c.args.from.now) (λ old. list_name c.args.to.now >>= λ new. edits (OfLists (Rename old new)) [] m) from
    c.in_ok-from.ensures
    ∙ found (list_name c.args.to.now) (λ new. edits (OfLists (Rename from new)) [] m) c.in_ok-to.to c.in_ok-to.ensures)
    c.edit.ensures.performs
