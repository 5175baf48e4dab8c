use Rattle.machine_core.specs.Lists.{list_lines}
use Rattle.std.specs.Option.{option_copied}
use Rattle.stored_lists.specs.Lists.{names_of}
use Rattle.command_text.proofs.LineLoops.{leaves_fewer, leaves_none, leaves_off}
use Rattle.machine_core.proofs.answer_lists.write_list_names.Goals as goal

pub loop-name-preserved : goal.loop-name-preserved
loop-name-preserved c =
    leaves_fewer (list_lines c.args.profile (option_copied c.args.times)) (names_of c.args.lists.now) c.in-Some.name.now c.next.new.self _ _ _ _
    (rw c.in-Some.ensures.steps at c.loop-name.invariant) c.in_ok-write_list.ensures

pub returns-in_err-write_list : goal.returns-in_err-write_list
returns-in_err-write_list c =
    leaves_off (list_lines c.args.profile (option_copied c.args.times)) (names_of c.args.lists.now) c.in-Some.name.now c.next.new.self _ _ _ _ _
    (rw c.in-Some.ensures.steps at c.loop-name.invariant) c.in_err-write_list.ensures c.from_residual.ensures.0

pub returns : goal.returns
returns c =
    leaves_none (list_lines c.args.profile (option_copied c.args.times)) (names_of c.args.lists.now) _ _ _ (rw c.in-None.ensures.steps.0 at c.loop-name.invariant)
