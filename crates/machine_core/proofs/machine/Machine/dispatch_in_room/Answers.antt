use Rattle.std.proofs.Common.{Bool, cond, sym, ap, subst}
use Rattle.machine_core.specs.Command.{meaning}
use Rattle.machine_core.specs.Meaning.{Meant}
use Rattle.machine_core.specs.Room.{without_room}
use Rattle.machine_core.specs.Work.{Performs}
use Rattle.machine_core.proofs.machine.Machine.dispatch_in_room.Goals as goal

pub returns-then-lacks_room-clause-performs : goal.returns-then-lacks_room-clause-performs
returns-then-lacks_room-clause-performs c =
    let m = c.args.self.now in
    let meant : Meant = meaning c.args.mask c.args.command m in
    subst (λ (x : Meant). Performs x m c.dispatch_full.new.self c.args.work.now c.dispatch_full.new.work c.dispatch_full.result)
    (sym (ap (λ (b : Bool). cond b (without_room meant) meant) (sym c.if-lacks_room.ensures))) c.dispatch_full.ensures.performs

pub returns-clause-performs : goal.returns-clause-performs
returns-clause-performs c =
    let m = c.args.self.now in
    let meant : Meant = meaning c.args.mask c.args.command m in
    subst (λ (x : Meant). Performs x m c.dispatch.new.self c.args.work.now c.dispatch.new.work c.dispatch.result)
    (sym (ap (λ (b : Bool). cond b (without_room meant) meant) (sym c.if-lacks_room.ensures))) c.dispatch.ensures.performs
