use Rattle.std.proofs.Common.{◌≡◌, ◌<◌, length, arith}
use Rattle.flac.proofs.FieldList.{comment_full, comment_pushed, comment_none}
use Rattle.flac.proofs.comments.add_comment.Goals as goal

pub returns-then-len-eq-MAX_COMMENTS-clause-added : goal.returns-then-len-eq-MAX_COMMENTS-clause-added
returns-then-len-eq-MAX_COMMENTS-clause-added g c = λ told within.
    let full : length c.args.comments.now.items ≡ 256 = omega arith in comment_full 256 _ _ full

pub returns-in_ok-push-clause-added : goal.returns-in_ok-push-clause-added
returns-in_ok-push-clause-added g c = λ told within.
    let room : length c.args.comments.now.items < 256 = omega arith in
    comment_pushed 256 _ _ _ _ (rw c.in-Some.is at (c.in_ok-comment.ensures.comment told within)) room c.in_ok-push.ensures.items

pub returns-in_default-clause-added : goal.returns-in_default-clause-added
returns-in_default-clause-added g c = λ told within.
    let room : length c.args.comments.now.items < 256 = omega arith in
    comment_none 256 _ _ (rw c.in_default.is at (c.in_ok-comment.ensures.comment told within)) room
