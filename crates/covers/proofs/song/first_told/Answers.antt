use Rattle.std.proofs.Common.{sym, ◌∙◌}
use Rattle.covers.specs.SongPictures.{is_told}
use Rattle.covers.proofs.Firsts.{found_at, passed_at, none_left}
use Rattle.covers.proofs.song.first_told.Goals as goal

pub returns-then-is_told-clause-found : goal.returns-then-is_told-clause-found
returns-then-is_told-clause-found c =
    found_at (is_told c.args.end) c.args.pictures.now c.loop-picture.picture-index c.picture-item.result _ c.loop-picture-test.true
    c.picture-item.is (sym c.is_told.ensures.test ∙ c.if-is_told.true) c.loop-picture.invariant

pub loop-picture-preserved : goal.loop-picture-preserved
loop-picture-preserved c =
    passed_at (is_told c.args.end) c.args.pictures.now c.loop-picture.picture-index c.picture-item.result _ c.loop-picture-test.true
    c.picture-item.is (sym c.is_told.ensures.test ∙ c.if-is_told.false) c.loop-picture.invariant

pub returns-clause-found : goal.returns-clause-found
returns-clause-found c = none_left (is_told c.args.end) c.args.pictures.now c.loop-picture.picture-index _ c.loop-picture-test.false
    c.loop-picture.invariant
