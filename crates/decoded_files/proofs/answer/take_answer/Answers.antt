use Rattle.std.proofs.Common.{rules, ◌≤◌, length}
use Rattle.decoded_files.proofs.AnswerBytes.{status_first}
use Rattle.decoded_files.proofs.answer.take_answer.Goals as goal

pub returns-clause-taken : goal.returns-clause-taken
returns-clause-taken g c = λ told body small framed.
    let within : c.in_ok-size.size ≤ length c.take_frame.new.room = search rules in
    status_first c.take_frame.new.room _ body c.in_ok-size.size c.in_ok-size.ensures.some within
    (c.in_ok-size.ensures.taken told body small framed)
