use Rattle.std.proofs.Common.{◌≤◌, length, arith}
use Rattle.machine_core.specs.Grouped.{with_numbers}
use Rattle.machine_core.proofs.Finding.Groups.{numbers_done, numbers_more}
use Rattle.machine_core.proofs.commands.finding.groups.add_numbers.Goals as goal

pub loop-number-preserved : goal.loop-number-preserved
loop-number-preserved c =
    numbers_more c.args.numbers.now c.loop-number.number-index c.loop-number.known.items c.add_number.new.numbers.items
    (with_numbers c.args.known.now.items c.args.numbers.now) (omega arith) c.in_ok-add_number.ensures c.loop-number.invariant

pub returns : goal.returns
returns c =
    let past : length c.args.numbers.now ≤ c.loop-number.number-index = omega arith in
    numbers_done c.args.numbers.now c.loop-number.number-index c.loop-number.known.items
    (with_numbers c.args.known.now.items c.args.numbers.now) past c.loop-number.invariant
