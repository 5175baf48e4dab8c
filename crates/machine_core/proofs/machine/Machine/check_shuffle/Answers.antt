use Rattle.std.proofs.Common.{Bool, Err, ap, subst}
use Rattle.state_codec.specs.Applied.{refusal_of}
use Rattle.state_codec.specs.Editing.{AnswersCheck}
use Rattle.state_codec.specs.declared.op.Op.{Op}
use Rattle.machine_core.specs.State.{MachineState}
use Rattle.machine_core.proofs.Queue.Shuffled.{refused_around, refused_stopped}
use Rattle.machine_core.proofs.machine.Machine.check_shuffle.Goals as goal

pub returns-in_err-check-clause-around : goal.returns-in_err-check-clause-around
returns-in_err-check-clause-around c =
    let same = ap (λ (m : MachineState). m.saved) c.self.view_is in
    λ id. refused_around id c.args.span c.args.self.now c.in_err-check.field-0.0 c.from_residual.result
    (subst (λ (op : Op). AnswersCheck {T = Bool} (refusal_of op c.args.self.now.saved) (Err c.in_err-check.field-0.0)) c.shuffle_op.ensures
    (rw same at c.in_err-check.ensures.answer)) c.from_residual.ensures.1

pub returns-in_err-check-clause-stopped : goal.returns-in_err-check-clause-stopped
returns-in_err-check-clause-stopped c =
    let same = ap (λ (m : MachineState). m.saved) c.self.view_is in
    refused_stopped c.args.span c.args.self.now c.in_err-check.field-0.0 c.from_residual.result
    (subst (λ (op : Op). AnswersCheck {T = Bool} (refusal_of op c.args.self.now.saved) (Err c.in_err-check.field-0.0)) c.shuffle_op.ensures
    (rw same at c.in_err-check.ensures.answer)) c.from_residual.ensures.1
