use Rattle.std.proofs.Common.{sym, ◌∙◌}
use Rattle.covers.specs.SongPictures.{is_told_front}
use Rattle.covers.proofs.Firsts.{found_at, passed_at, none_left}
use Rattle.covers.proofs.song.first_front.Goals as goal

pub returns-then-is_told_front-clause-found : goal.returns-then-is_told_front-clause-found
returns-then-is_told_front-clause-found c =
    found_at (is_told_front c.args.end) c.args.pictures.now c.loop-picture.picture-index c.picture-item.result _ c.loop-picture-test.true
    c.picture-item.is (sym c.is_told_front.ensures.test ∙ c.if-is_told_front.true) c.loop-picture.invariant

pub loop-picture-preserved : goal.loop-picture-preserved
loop-picture-preserved c =
    passed_at (is_told_front c.args.end) c.args.pictures.now c.loop-picture.picture-index c.picture-item.result _ c.loop-picture-test.true
    c.picture-item.is (sym c.is_told_front.ensures.test ∙ c.if-is_told_front.false) c.loop-picture.invariant

pub returns-clause-found : goal.returns-clause-found
returns-clause-found c = none_left (is_told_front c.args.end) c.args.pictures.now c.loop-picture.picture-index _ c.loop-picture-test.false
    c.loop-picture.invariant
