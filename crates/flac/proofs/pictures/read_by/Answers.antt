use Rattle.std.proofs.Common.{◌≤◌, ◌+◌, length, arith}
use Rattle.flac.proofs.PictureParts.{no_type, picture_read}
use Rattle.flac.proofs.pictures.read_by.Goals as goal

pub returns-in_default-clause-picture : goal.returns-in_default-clause-picture
returns-in_default-clause-picture g c = λ told within.
    let inside : c.args.block.first + 8 + c.args.lengths.media ≤ length (g.S.Source.bytes c.args.source.now) = omega (arith, within) in
    no_type _ _ _ c.args.lengths (omega arith) (rw c.in_default.is at (c.in_ok-media_type.ensures.name told inside))

pub returns-clause-picture : goal.returns-clause-picture
returns-clause-picture g c = λ told within.
    let inside : c.args.block.first + 8 + c.args.lengths.media ≤ length (g.S.Source.bytes c.args.source.now) = omega (arith, within) in
    let kept = c.in_ok-media_type.ensures.kept told in
    picture_read _ _ _ _ _ c.args.lengths (omega arith) (rw c.in-Some.is at (c.in_ok-media_type.ensures.name told inside))
    (rw kept.same at (c.in_ok-kind.ensures.number kept.is_honest))
