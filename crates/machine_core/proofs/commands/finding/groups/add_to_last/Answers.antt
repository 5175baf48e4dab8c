use Rattle.std.proofs.Common.{◌≡◌, ◌+◌, length, arith}
use Rattle.std.proofs.lemmas.Result.{on_ok_weaker}
use Rattle.machine_core.proofs.Finding.Groups.{last_set}
use Rattle.machine_core.proofs.commands.finding.groups.add_to_last.Goals as goal

pub returns : goal.returns
returns c =
    let runs = c.args.runs.now in
    let last : c.in-Some.at + 1 ≡ length runs = omega (arith, c.in-Some.ensures.0, c.in-Some.ensures.1) in
    on_ok_weaker c.add_number.result (λ more. last_set runs c.in-Some.at c.index-runs-at.result c.add_number.new.numbers c.args.number
    last more) c.add_number.ensures
