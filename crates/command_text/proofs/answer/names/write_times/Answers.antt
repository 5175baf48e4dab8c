use Rattle.std.proofs.Common.{codes}
use Rattle.command_text.specs.Answer.{number_pair}
use Rattle.command_text.proofs.Adding.{adds_stop, adds_then}
use Rattle.command_text.proofs.answer.names.write_times.Goals as goal

pub returns-in_err-write_number : goal.returns-in_err-write_number
returns-in_err-write_number c =
    adds_stop (number_pair (codes "uptime") c.args.uptime) (number_pair (codes "db_update") c.args.db_update) _ _ _ _
    c.in_err-write_number.ensures c.from_residual.ensures.0

pub returns : goal.returns
returns c =
    adds_then (number_pair (codes "uptime") c.args.uptime) (number_pair (codes "db_update") c.args.db_update) _ _ _ _ _
    c.in_ok-write_number.ensures c.write_number-2.ensures
