use Rattle.std.proofs.Common.{◌≡◌, true, List, ◌++◌, sym, ap, ◌∙◌}
use Rattle.state_codec.specs.declared.op.Op.{Op}
use Rattle.machine_core.specs.Keeping.{place_ops}
use Rattle.machine_core.specs.Room.{caught, is_idle}
use Rattle.machine_core.specs.State.{MachineState, told_room}
use Rattle.machine_core.proofs.FullSteps.{caught_up, happened_as, idle_caught, on_ok, room_told}
use Rattle.machine_core.proofs.machine.Machine.catch_up.Goals as goal

pub returns-then-is_idle-clause-ok : goal.returns-then-is_idle-clause-ok
returns-then-is_idle-clause-ok c =
    let m = c.args.self.now in
    happened_as _ _
    (sym (idle_caught m (sym (ap (λ (x : MachineState). is_idle x.player) c.self.view_is) ∙ sym c.if-is_idle.ensures)))
    (room_told true m _ c.nothing.result (ap (told_room true) c.self.view_is) c.nothing.ensures.ops c.nothing.ensures.changed)

pub returns-clause-ok : goal.returns-clause-ok
returns-clause-ok c =
    let m = c.args.self.now in
    let k = c.turn_back.new.self in
    caught_up m k c.put_place.new.self _ c.current-current.result c.requires
    (sym (ap (λ (x : MachineState). is_idle x.player) c.self.view_is) ∙ sym c.if-is_idle.ensures)
    (on_ok (k ≡ caught m) c.turn_back.result (sym c.if-is_err.ensures.value) c.turn_back.ensures.ok)
    (c.current-current.ensures ∙ ap (λ (x : MachineState). x.player.current) c.self-2.view_is)
    c.put_place.ensures.machine
    (c.put_place.ensures.ops
    ∙ ap (λ (l : List Op). l ++ place_ops c.current-current.result k.player k.saved k.saved.place) c.in_ok-ops.ensures.items)
    c.none.ensures
