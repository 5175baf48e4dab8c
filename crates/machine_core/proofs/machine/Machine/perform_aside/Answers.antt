use Rattle.std.proofs.Common.{◌≡◌, ◌∙◌, arith}
use Rattle.machine_core.specs.Command.{meaning}
use Rattle.machine_core.specs.Room.{under_room}
use Rattle.machine_core.proofs.KeptWork.{none_performed, performed_aside, performed_more}
use Rattle.machine_core.proofs.machine.Machine.perform_aside.Goals as goal

pub give_back-requires : goal.give_back-requires
give_back-requires c =
    let m = c.args.self.now in
    omega (
      arith,
      c.in_ok-set_aside.ensures.ok,
      performed_more c.dispatch_in_room-done.result (under_room m (meaning c.args.mask c.args.command m)) m
          c.dispatch_in_room-done.new.self c.set_aside.new.self c.dispatch_in_room-done.new.work c.dispatch_in_room-done.ensures.performs,
    )

pub returns-clause-performs : goal.returns-clause-performs
returns-clause-performs c =
    let m = c.args.self.now in
    performed_aside (under_room m (meaning c.args.mask c.args.command m)) m c.dispatch_in_room-done.new.self c.args.work.now
    c.set_aside.new.self
    c.dispatch_in_room-done.new.work c.give_back.new.self c.args.profile c.requires.under c.in_ok-set_aside.ensures.text
    c.in_ok-set_aside.ensures.ops c.in_ok-set_aside.ensures.ok c.give_back.ensures.text c.give_back.ensures.ops c.give_back.ensures.size
    c.dispatch_in_room-done.result c.dispatch_in_room-done.ensures.performs

pub returns-in_err-set_aside-clause-performs : goal.returns-in_err-set_aside-clause-performs
returns-in_err-set_aside-clause-performs c =
    none_performed (under_room c.args.self.now (meaning c.args.mask c.args.command c.args.self.now)) c.args.self.now c.args.work.now
    c.set_aside.new.self
    c.in_err-set_aside.field-0.0 c.from_residual.result c.args.profile c.in_err-set_aside.ensures.err c.requires.under
    c.in_err-set_aside.ensures.refused c.from_residual.ensures.1
