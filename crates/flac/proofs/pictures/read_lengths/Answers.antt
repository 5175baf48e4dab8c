use Rattle.std.proofs.Common.{◌≡◌, ◌+◌, arith, slice_range}
use Rattle.song_files.proofs.Sources.{keeps_then}
use Rattle.flac.specs.Numbers.{be32}
use Rattle.flac.proofs.PictureParts.{AreRead, no_head, no_media, no_text, no_data, all_there}
use Rattle.flac.proofs.pictures.read_lengths.Goals as goal

pub returns-then-block-lt-NUMBERS_LEN-clause-lengths : goal.returns-then-block-lt-NUMBERS_LEN-clause-lengths
returns-then-block-lt-NUMBERS_LEN-clause-lengths g c = λ told within. no_head _ _ _ within (omega arith)

pub returns-then-media-room-clause-lengths : goal.returns-then-media-room-clause-lengths
returns-then-media-room-clause-lengths g c = λ told within.
    no_media _ _ _ c.in_ok-media.media within (omega arith) (c.in_ok-media.ensures.number told) (omega arith)

pub returns-then-text-room-clause-lengths : goal.returns-then-text-room-clause-lengths
returns-then-text-room-clause-lengths g c = λ told within.
    let kept = c.in_ok-media.ensures.kept told in
    no_text _ _ _ c.in_ok-media.media c.in_ok-text.text within (omega arith) (c.in_ok-media.ensures.number told)
    (rw kept.same at (c.in_ok-text.ensures.number kept.is_honest)) (omega arith)

pub returns-then-len-room-clause-lengths : goal.returns-then-len-room-clause-lengths
returns-then-len-room-clause-lengths g c = λ told within.
    let kept = c.in_ok-media.ensures.kept told in
    let next = keeps_then kept (c.in_ok-text.ensures.kept kept.is_honest) in
    let read : AreRead (g.S.Source.bytes c.args.source.now) c.args.block.first c.in_ok-media.media c.in_ok-text.text c.in_ok-len.len = record {
      media = c.in_ok-media.ensures.number told;
      text = rw kept.same at (c.in_ok-text.ensures.number kept.is_honest);
      len = rw next.same at (c.in_ok-len.ensures.number next.is_honest);
    } in
    no_data _ _ _ _ _ _ within (omega arith) read (omega arith)

pub returns-clause-lengths : goal.returns-clause-lengths
returns-clause-lengths g c = λ told within.
    let kept = c.in_ok-media.ensures.kept told in
    let next = keeps_then kept (c.in_ok-text.ensures.kept kept.is_honest) in
    let read : AreRead (g.S.Source.bytes c.args.source.now) c.args.block.first c.in_ok-media.media c.in_ok-text.text c.in_ok-len.len = record {
      media = c.in_ok-media.ensures.number told;
      text = rw kept.same at (c.in_ok-text.ensures.number kept.is_honest);
      len = rw next.same at (c.in_ok-len.ensures.number next.is_honest);
    } in
    all_there _ _ _ _ _ _ within (omega arith) read
