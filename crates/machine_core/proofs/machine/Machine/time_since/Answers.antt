use Rattle.std.proofs.Common.{◌≡◌, List, drop, length, sym, ap, ◌∙◌}
use Rattle.profile.specs.declared.profile.Profile.{Profile}
use Rattle.state_codec.specs.Spelling.{ops_bytes}
use Rattle.state_codec.specs.declared.op.Op.{Op}
use Rattle.machine_core.specs.Keeping.{if_kept, telling_time, time_ops}
use Rattle.machine_core.proofs.KeptSteps.{some_time}
use Rattle.machine_core.proofs.machine.Machine.time_since.Goals as goal

pub returns-else-not-have_list_op-clause-bytes : goal.returns-else-not-have_list_op-clause-bytes
returns-else-not-have_list_op-clause-bytes c = λ any.
    let m = c.args.self.now in
    let ops : List Op = time_ops (drop c.args.made c.args.ops.now.items) m in
    let some : ops ≡ telling_time m =
    some_time c.args.made c.deref.result.now c.args.ops.now.items m c.deref.ensures.value
    (sym c.have_list_op.ensures ∙ c.if-not-have_list_op.false) in
    c.tell_time.ensures.bytes any
    ∙ ap (λ (l : List Op). length (ops_bytes any l)) (sym some ∙ ap (λ (p : Profile). if_kept p ops) (sym c.in-Wide.is))
