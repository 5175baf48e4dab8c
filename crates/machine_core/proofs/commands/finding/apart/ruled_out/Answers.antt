use Rattle.std.proofs.Common.{Bool, List, subst, sym, arith}
use Rattle.machine_core.specs.EntryRows.{AreRuledOut}
use Rattle.machine_core.proofs.Finding.RuledOut.{none_marked, unmarked}
use Rattle.machine_core.proofs.Finding.Sorted.{written_back}
use Rattle.machine_core.proofs.commands.finding.apart.ruled_out.Goals as goal

pub returns-then-not-are_apart : goal.returns-then-not-are_apart
returns-then-not-are_apart c =
    unmarked c.args.case c.args.filter.now c.args.songs.now c.args.entries.now c.new-marks.result.items c.new-marks.ensures.items

pub rule_out-requires : goal.rule_out-requires
rule_out-requires c = rw c.deref_mut.ensures.value (none_marked c.args.case c.args.filter.now c.args.songs.now c.args.entries.now
    c.new-marks.result.items c.resize.new.self.items _ _ c.new-marks.ensures.items c.new-marks.ensures.len c.in_ok-resize.ensures.items)

pub returns : goal.returns
returns c = subst (λ (l : List Bool). AreRuledOut c.args.case c.args.filter.now c.args.songs.now c.args.entries.now l)
    (sym (written_back c.resize.new.self.len c.rule_out.new.marks _ (omega (arith, c.rule_out.auto.marks, c.deref_mut.ensures.len))))
    c.in_ok-rule_out.ensures
