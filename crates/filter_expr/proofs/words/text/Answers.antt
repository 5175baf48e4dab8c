use Rattle.std.proofs.Common.{◌∙◌}
use Rattle.filter_expr.proofs.Texts.{read_utf8, not_utf8}
use Rattle.filter_expr.proofs.words.text.Goals as goal

pub returns-in_ok-from_str-in-Ok : goal.returns-in_ok-from_str-in-Ok
returns-in_ok-from_str-in-Ok c = read_utf8 c.in_ok-from_str-in-Ok.field-0 c.args.bytes.now
    (c.in_ok-from_str-in-Ok.ensures.ok ∙ c.in-Ok.ensures.cases.0)

pub returns-in-Err : goal.returns-in-Err
returns-in-Err c = not_utf8 c.args.bytes.now c.in-Err.ensures.cases.0
