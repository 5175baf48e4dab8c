use Rattle.std.proofs.Common.{◌≡◌, ◌<◌, length, arith}
use Rattle.flac.proofs.FieldList.{comment_full, comment_pushed, comment_none}
use Rattle.flac.proofs.pictures.add_picture.Goals as goal

pub returns-then-len-eq-MAX_PICTURES-clause-added : goal.returns-then-len-eq-MAX_PICTURES-clause-added
returns-then-len-eq-MAX_PICTURES-clause-added g c = λ told within.
    let full : length c.args.pictures.now.items ≡ 16 = omega arith in comment_full 16 _ _ full

pub returns-in_ok-push-clause-added : goal.returns-in_ok-push-clause-added
returns-in_ok-push-clause-added g c = λ told within.
    let room : length c.args.pictures.now.items < 16 = omega arith in
    comment_pushed 16 _ _ _ _ (rw c.in-Some.is at (c.in_ok-picture.ensures.picture told within)) room c.in_ok-push.ensures.items

pub returns-in_default-clause-added : goal.returns-in_default-clause-added
returns-in_default-clause-added g c = λ told within.
    let room : length c.args.pictures.now.items < 16 = omega arith in
    comment_none 16 _ _ (rw c.in_default.is at (c.in_ok-picture.ensures.picture told within)) room
