use Rattle.std.proofs.Common.{◌∙◌, ◌++◌, ◌<◌, length, arith}
use Rattle.http_guard.proofs.LineLaws.{start_decides, long_start_decides, no_line, start_so_far, http_is_shut_out, text_decides}
use Rattle.http_guard.proofs.LineLaws.{text_so_far}
use Rattle.http_guard.proofs.first_line.judge_start.Goals as goal

pub returns-then-begins_with_method : goal.returns-then-begins_with_method
returns-then-begins_with_method c = λ rest.
    http_is_shut_out (c.args.start.now ++ rest) (start_decides c.args.start.now rest c.requires.one (cc))

pub returns-then-start-gt-LINE_LIMIT : goal.returns-then-start-gt-LINE_LIMIT
returns-then-start-gt-LINE_LIMIT c = λ rest.
    let some : 0 < length c.args.start.now = omega arith in
    text_decides c.args.start.now rest some c.requires.text ∙ long_start_decides c.args.start.now rest c.requires.one (cc) (omega arith)

pub returns-else-start-gt-LINE_LIMIT : goal.returns-else-start-gt-LINE_LIMIT
returns-else-start-gt-LINE_LIMIT c =
    let start = c.args.start.now in
    (text_so_far start c.requires.text (start_so_far start c.requires.one (cc)), no_line start c.requires.one, omega arith)
