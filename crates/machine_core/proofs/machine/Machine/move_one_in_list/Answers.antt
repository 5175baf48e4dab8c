use Rattle.std.proofs.Common.{[]}
use Rattle.state_codec.specs.declared.op.Op.TheVariants.{List as OfLists}
use Rattle.state_codec.specs.declared.op.list_op.ListOp.TheVariants.{Move}
use Rattle.machine_core.specs.Lists.{list_name}
use Rattle.machine_core.specs.Meaning.{edits}
use Rattle.machine_core.proofs.Answering.{also}
use Rattle.machine_core.proofs.LookUps.{found, not_found}
use Rattle.machine_core.proofs.machine.Machine.move_one_in_list.Goals as goal

pub returns-in_err-name : goal.returns-in_err-name
returns-in_err-name c =
    let m = c.args.self.now in
    not_found (list_name c.args.name.now) (λ good. edits (OfLists (Move good c.args.from c.args.to)) [] m) m c.args.work.now
    c.in_err-name.field-0.0 c.from_residual.result c.in_err-name.ensures c.from_residual.ensures.1

pub returns : goal.returns
returns c =
    let m = c.args.self.now in
    also _ _ _ _ _ _ _
    (found (list_name c.args.name.now) (λ good. edits (OfLists (Move good c.args.from c.args.to)) [] m) c.in_ok-name.name
    c.in_ok-name.ensures) c.edit.ensures.performs
