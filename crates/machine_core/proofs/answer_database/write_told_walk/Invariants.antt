use Rattle.machine_core.specs.Database.{item_lines}
use Rattle.command_text.proofs.LineLoops.{Leaves}
use Rattle.machine_core.proofs.answer_database.write_told_walk.Given as goal

abbrev pub invariant-loop-item : goal.invariant-loop-item
invariant-loop-item l = Leaves (item_lines l.detail) l.fn.walk l.item-iterator l.fn.out l.out
