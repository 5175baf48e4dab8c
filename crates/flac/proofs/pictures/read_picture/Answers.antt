use Rattle.std.proofs.Common.{◌≡◌, ◌+◌, ◌≤◌, ◌∙◌, ap, sym, Some, None, length, arith}
use Rattle.std.proofs.lemmas.Result.{IfOk-weaker}
use Rattle.flac.specs.Blocks.{body_of}
use Rattle.flac.specs.Pictures.{picture_of, picture_by}
use Rattle.flac.proofs.PictureParts.{picture_here}
use Rattle.flac.proofs.pictures.read_picture.Goals as goal

pub returns-in-Some-clause-picture : goal.returns-in-Some-clause-picture
returns-in-Some-clause-picture g c = λ told within.
    let kept = c.in_ok-lengths.ensures.kept told in
    let inside : c.args.block.first + c.args.block.len ≤ length (g.S.Source.bytes c.read_lengths.new.source) = rw kept.same within in
    let six : c.args.block.kind ≡ 6 = omega arith in
    let here : picture_of (g.S.Source.bytes c.args.source.now) c.args.block ≡ picture_by c.args.block.first (body_of
    (g.S.Source.bytes c.args.source.now) c.args.block) c.in-Some.lengths
    = picture_here (g.S.Source.bytes c.args.source.now) c.args.block (Some c.in-Some.lengths) six (rw c.in-Some.is at
    (c.in_ok-lengths.ensures.lengths told within)) in
    IfOk-weaker c.read_by.result _ _ (λ picture same. same
    ∙ ap (λ file. picture_by c.args.block.first (body_of file c.args.block) c.in-Some.lengths) kept.same ∙ sym here)
    (c.read_by.ensures.picture kept.is_honest inside)

pub returns-in-None-clause-picture : goal.returns-in-None-clause-picture
returns-in-None-clause-picture g c = λ told within.
    let six : c.args.block.kind ≡ 6 = omega arith in
    sym (picture_here (g.S.Source.bytes c.args.source.now) c.args.block None six (rw c.in-None.is at
    (c.in_ok-lengths.ensures.lengths told within)))
