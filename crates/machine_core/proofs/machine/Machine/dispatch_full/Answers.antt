use Rattle.std.proofs.Common.{Result, sym, subst, ◌∙◌, arith}
use Rattle.state_codec.proofs.OpLaws.{op_spelled}
use Rattle.machine_core.specs.Command.{meaning}
use Rattle.machine_core.specs.Meaning.{Meant}
use Rattle.machine_core.specs.Room.{without_room}
use Rattle.machine_core.specs.Work.{Performs}
use Rattle.machine_core.specs.declared.work.Failure.{Failure}
use Rattle.machine_core.proofs.FullLaws.{EachTakesSome, performs_full}
use Rattle.machine_core.proofs.machine.Machine.dispatch_full.Goals as goal

each_takes_some : EachTakesSome
each_takes_some profile op = omega (arith, op_spelled profile op)

pub empty-requires : goal.empty-requires
empty-requires c = omega (arith, c.fill-size.ensures.before, c.args.work.now.fits)

pub returns-clause-performs : goal.returns-clause-performs
returns-clause-performs c =
    let m = c.args.self.now in
    let meant : Meant = meaning c.args.mask c.args.command m in
    subst (λ (r : Result (Unit {0}) Failure). Performs (without_room meant) m c.dispatch-done.new.self c.args.work.now c.empty.new.self r)
    (sym c.told_so.ensures)
    (performs_full each_takes_some meant m c.dispatch-done.new.self c.args.work.now c.fill-size.new.self c.dispatch-done.new.work
    c.empty.new.self c.dispatch-done.result
    (c.fill-size.ensures.size, (c.fill-size.ensures.text, c.fill-size.ensures.ops))
    (c.empty.ensures.size ∙ c.fill-size.ensures.before, (c.empty.ensures.text, c.empty.ensures.ops))
    c.dispatch-done.ensures.performs)
