use Rattle.machine_core.specs.EntryRows.{AreRuledOut}
use Rattle.machine_core.proofs.commands.finding.apart.rule_out.Given as goal

abbrev pub invariant-loop-key : goal.invariant-loop-key
invariant-loop-key l = AreRuledOut l.case l.filter l.songs l.entries l.marks
