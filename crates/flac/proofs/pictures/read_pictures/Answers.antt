use Rattle.std.proofs.Common.{◌≡◌, length, arith}
use Rattle.song_files.proofs.Sources.{keeps_then}
use Rattle.flac.specs.Pictures.{picture_of}
use Rattle.flac.proofs.PictureParts.{pictures_more, within_at}
use Rattle.flac.proofs.pictures.read_pictures.Goals as goal

pub parts-preserved : goal.parts-preserved
parts-preserved g c = (
  c.in_ok-add_picture.ensures.few,
  λ told. let kept = c.parts.invariant.1 told in keeps_then kept (c.in_ok-add_picture.ensures.kept kept.is_honest),
  λ told all.
      let kept = c.parts.invariant.1 told in
      let here : c.args.end ≡ length (g.S.Source.bytes c.parts.source) = rw kept.same all in
      pictures_more 16 (picture_of (g.S.Source.bytes c.args.source.now)) c.args.blocks.now c.parts.block-index _
      c.parts.pictures.items c.add_picture.new.pictures.items c.parts-test.true (c.parts.invariant.2 told all)
      (rw kept.same at (c.in_ok-add_picture.ensures.added kept.is_honest (within_at c.args.end (length (g.S.Source.bytes
      c.parts.source)) c.args.blocks.now c.parts.block-index c.requires c.parts-test.true here _))),
)
