use Rattle.std.proofs.Common.{codes}
use Rattle.command_text.specs.Answer.{pair, number_pair}
use Rattle.command_text.specs.AnswerTimes.{whole_seconds}
use Rattle.command_text.proofs.Adding.{adds_stop, adds_then}
use Rattle.command_text.proofs.answer.names.write_counts.Goals as goal

pub returns-in_err-write_number : goal.returns-in_err-write_number
returns-in_err-write_number c =
    adds_stop (number_pair (codes "songs") c.args.songs) ((pair (codes "playtime") (whole_seconds c.args.milliseconds))) _ _ _ _
    c.in_err-write_number.ensures c.from_residual.ensures.0

pub returns : goal.returns
returns c =
    adds_then (number_pair (codes "songs") c.args.songs) ((pair (codes "playtime") (whole_seconds c.args.milliseconds))) _ _ _ _ _
    c.in_ok-write_number.ensures
    (c.write_whole_seconds.ensures)
