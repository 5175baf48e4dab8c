use Rattle.std.proofs.Common.{sym, ◌∙◌}
use Rattle.as_wave.specs.FlacTag.{is_front_cover}
use Rattle.as_wave.proofs.Firsts.{found_at, passed_at, none_left}
use Rattle.as_wave.proofs.flac_tag.first_front.Goals as goal

pub returns-then-is_front_cover-clause-found : goal.returns-then-is_front_cover-clause-found
returns-then-is_front_cover-clause-found c =
    found_at (is_front_cover c.args.end) c.args.pictures.now c.loop-picture.picture-index c.picture-item.result _ c.loop-picture-test.true
    c.picture-item.is (sym c.is_front_cover.ensures.test ∙ c.if-is_front_cover.true) c.loop-picture.invariant

pub loop-picture-preserved : goal.loop-picture-preserved
loop-picture-preserved c =
    passed_at (is_front_cover c.args.end) c.args.pictures.now c.loop-picture.picture-index c.picture-item.result _ c.loop-picture-test.true
    c.picture-item.is (sym c.is_front_cover.ensures.test ∙ c.if-is_front_cover.false) c.loop-picture.invariant

pub returns-clause-found : goal.returns-clause-found
returns-clause-found c = none_left (is_front_cover c.args.end) c.args.pictures.now c.loop-picture.picture-index _ c.loop-picture-test.false
    c.loop-picture.invariant
