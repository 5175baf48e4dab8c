use Rattle.std.proofs.Common.{List, ◌++◌, ap, ◌∙◌}
use Rattle.state_codec.specs.declared.op.Op.{Op}
use Rattle.machine_core.specs.Happening.{Happening}
use Rattle.machine_core.specs.Keeping.{when_kept}
use Rattle.machine_core.proofs.KeptSteps.{kept_here}
use Rattle.machine_core.proofs.machine.Machine.keep.Goals as goal

pub returns-clause-ok : goal.returns-clause-ok
returns-clause-ok c =
    let h : Happening = when_kept c.args.ticket c.args.self.now in
    kept_here c.args.ticket c.args.self.now c.keep_here.new.self _ c.keep_here.ensures.machine
    (c.keep_here.ensures.ops ∙ ap (λ (l : List Op). l ++ h.ops) c.in_ok-ops.ensures.items) c.none.ensures
