use Rattle.std.proofs.Common.{ap, subst, ◌∙◌, ◌++◌, Result}
use Rattle.std.specs.Prelude.{OnErr}
use Rattle.std.specs.List.{flat_map}
use Rattle.idle_masks.specs.Subsystem.{in_printed_order}
use Rattle.idle_masks.specs.Subsystems.{contains}
use Rattle.command_text.specs.Answer.{ok, IsFullFor}
use Rattle.no_memory.specs.declared.NoMemory.{NoMemory}
use Rattle.daemon_core.specs.Step.{line_if}
use Rattle.daemon_core.proofs.TellLaws.{all_told, room_for_last}
use Rattle.daemon_core.proofs.tell.TellRoom.tell.Goals as goal

pub returns : goal.returns
returns c =
    c.new.ensures ∙ c.in-Ok.ensures.all
    ∙ all_told c.args.changed c.write_each.new.text.items
    (c.write_each.ensures.text ∙ ap (λ t. t ++ flat_map (λ x. line_if (contains c.args.changed x) x) in_printed_order)
    (let i = c.self.invariant in i.0))

pub unreachable-requires : goal.unreachable-requires
unreachable-requires c =
    let i = c.self.invariant in
    room_for_last c.args.changed c.self.inside.text c.write_each.new.text i.0 i.1 c.write_each.ensures.text c.write_each.ensures.room
    (subst (λ (r : Result (Unit {0}) NoMemory). OnErr r (IsFullFor c.write_each.new.text ok)) c.in-Err.is c.write_ok.ensures.full)
