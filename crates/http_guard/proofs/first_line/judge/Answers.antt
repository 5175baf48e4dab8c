use Rattle.std.proofs.Common.{◌∙◌, ◌++◌, ◌<◌, length, arith}
use Rattle.client_session.proofs.Newlines.{searched_at}
use Rattle.http_guard.proofs.LineLaws.{control_decides, http_is_shut_out, line_decides, text_decides}
use Rattle.http_guard.proofs.first_line.judge.Goals as goal

pub returns-then-begins_with_control : goal.returns-then-begins_with_control
returns-then-begins_with_control c = λ rest. control_decides c.args.seen.now rest (cc)

pub returns-then-is_http_line : goal.returns-then-is_http_line
returns-then-is_http_line c = λ rest.
    let found = searched_at c.args.seen.now c.in-Some.end c.in-Some.ensures in
    http_is_shut_out (c.args.seen.now ++ rest)
    (line_decides c.args.seen.now rest c.in-Some.end found.0 found.1 found.2 ∙ (cc))

pub returns-else-is_http_line : goal.returns-else-is_http_line
returns-else-is_http_line c = λ rest.
    let found = searched_at c.args.seen.now c.in-Some.end c.in-Some.ensures in
    let some : 0 < length c.args.seen.now = omega (arith, found.0) in
    text_decides c.args.seen.now rest some (cc)
    ∙ line_decides c.args.seen.now rest c.in-Some.end found.0 found.1 found.2 ∙ (cc)
