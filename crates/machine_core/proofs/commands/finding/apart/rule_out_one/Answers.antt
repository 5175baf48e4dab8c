use Rattle.std.proofs.Common.{arith}
use Rattle.play_queue.specs.Shown.{shown}
use Rattle.machine_core.proofs.Finding.RuledOut.{marked_on}
use Rattle.machine_core.proofs.commands.finding.apart.rule_out_one.Goals as goal

pub returns : goal.returns
returns c = marked_on c.args.case c.args.filter.now c.args.songs.now c.args.entries.now c.args.marks.now c.mark.new.marks c.args.at
    (shown c.at-entry.result) c.requires (omega arith) c.mark.ensures c.at-entry.ensures
    (c.in_ok-matched.ensures c.if-matched.false c.args.at)
