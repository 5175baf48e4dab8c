use Rattle.command_text.proofs.Lists.{filled, hollow}
use Rattle.command_text.proofs.Following.{nothing_left, next_in_quotes}
use Rattle.command_text.proofs.words.next_word.Goals as goal

pub returns-then-is_empty : goal.returns-then-is_empty
returns-then-is_empty c =
    let rest = c.without_blanks-rest in
    nothing_left c.args.bytes.now rest.result.now rest.ensures.same
    (hollow rest.result.now c.is_empty.result c.is_empty.ensures c.if-is_empty.true)

pub returns-then-rest-eq34 : goal.returns-then-rest-eq34
returns-then-rest-eq34 c =
    let rest = c.without_blanks-rest in
    next_in_quotes c.args.bytes.now rest.result.now c.quoted_word.result rest.ensures.same rest.ensures.shorter
    (filled rest.result.now c.is_empty.result c.is_empty.ensures c.if-is_empty.false) c.if-rest-eq34.true c.quoted_word.ensures
