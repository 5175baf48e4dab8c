use Rattle.std.proofs.Common.{sym, ap, subst}
use Rattle.std.specs.Result.{IfOk}
use Rattle.machine_core.specs.Happening.{HasHappened, Happening}
use Rattle.machine_core.specs.State.{lacks_room, told_room}
use Rattle.machine_core.proofs.FullSteps.{and_second, back_caught, happened_as, room_told, told_alone}
use Rattle.machine_core.proofs.machine.Machine.tell_room.Goals as goal

pub catch_up-requires : goal.catch_up-requires
catch_up-requires c = and_second c.args.is_there (lacks_room c.args.self.now) (sym c.if-is_back.ensures)

pub returns-then-is_back-clause-ok : goal.returns-then-is_back-clause-ok
returns-then-is_back-clause-ok c =
    let m = c.args.self.now in
    subst (λ (h : Happening). IfOk c.catch_up.result (HasHappened h m c.catch_up.new.self))
    (sym (back_caught c.args.is_there m (sym c.if-is_back.ensures))) c.catch_up.ensures.ok

pub returns-clause-ok : goal.returns-clause-ok
returns-clause-ok c =
    let m = c.args.self.now in
    happened_as _ _ (sym (told_alone c.args.is_there m (sym c.if-is_back.ensures)))
    (room_told c.args.is_there m _ c.nothing.result (ap (told_room c.args.is_there) c.self.view_is) c.nothing.ensures.ops
    c.nothing.ensures.changed)
