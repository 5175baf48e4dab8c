use Rattle.std.proofs.Common.{ℕ, List, length, Option, sym, ap, ◌∙◌}
use Rattle.state_codec.specs.Spelling.{ops_bytes}
use Rattle.state_codec.specs.declared.op.Op.{Op}
use Rattle.machine_core.specs.Keeping.{if_kept, place_ops}
use Rattle.machine_core.proofs.KeptSteps.{since_some}
use Rattle.machine_core.proofs.machine.Machine.keep_since.Goals as goal

pub returns-clause-bytes : goal.returns-clause-bytes
returns-clause-bytes c = λ any.
    let m = c.args.self.now in
    c.put_by.ensures.bytes any
    ∙ ap (λ (o : Option ℕ). length (ops_bytes any (if_kept c.args.profile (place_ops o m.player m.saved m.saved.place)))) c.current.ensures
    ∙ ap (λ (l : List Op). length (ops_bytes any (if_kept c.args.profile l)))
    (sym (since_some c.args.before.now m (sym c.goes_on_since.ensures ∙ c.if-goes_on_since.false)))
