use Rattle.std.proofs.Common.{sym, false}
use Rattle.flac.proofs.TextTests.{comment_by_test, comment_made}
use Rattle.flac.proofs.comments.Comment.parse.Goals as goal

pub returns-in_default : goal.returns-in_default
returns-in_default c = sym (comment_by_test c.args.field.now false c.in_default.ensures)

pub returns : goal.returns
returns c =
    let passes = c.in-Some.ensures in
    comment_made c.args.field.now _ _ _ _ passes.0 passes.1 passes.2 c.in_ok-name.ensures.ok c.in_ok-value.ensures.ok
