use Rattle.machine_core.specs.Lists.{list_lines}
use Rattle.std.specs.Option.{option_copied}
use Rattle.stored_lists.specs.Lists.{names_of}
use Rattle.command_text.proofs.LineLoops.{Leaves}
use Rattle.machine_core.proofs.answer_lists.write_list_names.Given as goal

abbrev pub invariant-loop-name : goal.invariant-loop-name
invariant-loop-name l = Leaves (list_lines l.fn.profile (option_copied l.fn.times)) (names_of l.lists) l.name-iterator l.fn.out l.out
