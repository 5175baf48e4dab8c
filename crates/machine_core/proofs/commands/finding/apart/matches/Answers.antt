use Rattle.std.proofs.Common.{sym, ◌∙◌}
use Rattle.play_queue.specs.Shown.{shown}
use Rattle.machine_core.proofs.Finding.RuledOut.{unmatched, without_row}
use Rattle.machine_core.proofs.commands.finding.apart.matches.Goals as goal

pub returns-in_ok-matches-in-Ok : goal.returns-in_ok-matches-in-Ok
returns-in_ok-matches-in-Ok c = λ none at.
    unmatched c.args.case c.args.filter.now at (shown c.args.entry) _ c.in-Ok.row.now c.in-Ok.ensures.row
    (sym c.in_ok-matches-in-Ok.ensures.member ∙ none)

pub returns-in-Err : goal.returns-in-Err
returns-in-Err c = λ none at. without_row _ c.args.case c.args.filter.now at (shown c.args.entry) _ _ c.in-Err.ensures.answer
