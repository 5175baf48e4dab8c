use Rattle.command_text.specs.Answer.{number_pair}
use Rattle.command_text.proofs.Adding.{adds_stop, adds_then}
use Rattle.command_text.proofs.answer.pairs.write_position_and_id.Goals as goal

pub returns-in_err-write_number : goal.returns-in_err-write_number
returns-in_err-write_number c =
    adds_stop (number_pair c.args.position_key.now c.args.position) ((number_pair c.args.id_key.now c.args.id)) _ _ _ _
    c.in_err-write_number.ensures c.from_residual.ensures.0

pub returns : goal.returns
returns c =
    adds_then (number_pair c.args.position_key.now c.args.position) ((number_pair c.args.id_key.now c.args.id)) _ _ _ _ _
    c.in_ok-write_number.ensures
    (c.write_number-2.ensures)
