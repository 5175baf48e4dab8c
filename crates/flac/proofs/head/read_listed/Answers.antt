use Rattle.std.proofs.Common.{◌≡◌, ◌∙◌, ap, sym, length}
use Rattle.std.proofs.lemmas.Result.{err_from_is_err_and}
use Rattle.song_files.specs.Source.{Grows}
use Rattle.song_files.proofs.Sources.{keeps_then, grows_after}
use Rattle.flac.specs.Comments.{comments_of}
use Rattle.flac.specs.Pictures.{pictures_of}
use Rattle.flac.specs.Reading.{reading_of}
use Rattle.flac.specs.StreamInfo.{info_of}
use Rattle.flac.proofs.Heads.{reading_ok, no_info}
use Rattle.flac.proofs.Verdicts.{refuses_by, fails_refuses}
use Rattle.flac.proofs.head.read_listed.Goals as goal

pub returns-in_err-info-clause-refused : goal.returns-in_err-info-clause-refused
returns-in_err-info-clause-refused g c = λ told all.
    let p = err_from_is_err_and c.from_residual.result c.from_residual.ensures.1 in
    let file = g.S.Source.bytes c.args.source.now in
    let fault = Grows (g.S.Source.faults c.args.source.now) (g.S.Source.faults c.read_stream_info.new.source) in
    rw (p.1, p.2) (refuses_by (info_of file c.args.blocks.now) (reading_of file c.args.blocks.now) fault fault (λ h. h)
    (λ e r. no_info file c.args.blocks.now e r) _ (c.in_err-info.ensures.refused told all))

pub returns-in_err-comments-clause-refused : goal.returns-in_err-comments-clause-refused
returns-in_err-comments-clause-refused g c = λ told all.
    let kept = c.in_ok-info.ensures.kept told in
    let here : c.args.end ≡ length (g.S.Source.bytes c.read_stream_info.new.source) = rw kept.same all in
    let p = err_from_is_err_and c.from_residual-in_err-comments.result c.from_residual-in_err-comments.ensures.1 in
    rw (p.1, p.2) (fails_refuses (reading_of (g.S.Source.bytes c.args.source.now) c.args.blocks.now) _ _
    (grows_after _ _ _ kept.counted) _ (c.in_err-comments.ensures.fault kept.is_honest here))

pub returns-clause-head : goal.returns-clause-head
returns-clause-head g c = λ told all.
    let kept = c.in_ok-info.ensures.kept told in
    let here : c.args.end ≡ length (g.S.Source.bytes c.read_stream_info.new.source) = rw kept.same all in
    let next = keeps_then kept (c.in_ok-comments.ensures.kept kept.is_honest) in
    let there : c.args.end ≡ length (g.S.Source.bytes c.read_comments.new.source) = rw next.same all in
    reading_ok (g.S.Source.bytes c.args.source.now) c.args.blocks.now c.in_ok-info.info c.in_ok-comments.comments.items
    c.new-comments.result c.new-pictures.result c.in_ok-pictures.pictures.items c.end_of-first_frame.result
    (c.in_ok-info.ensures.info told all)
    (c.in_ok-comments.ensures.listed kept.is_honest here ∙ ap (λ file. comments_of file c.args.blocks.now) kept.same)
    (c.in_ok-pictures.ensures.listed next.is_honest there ∙ ap (λ file. pictures_of file c.args.blocks.now) next.same)
    c.new-comments.ensures c.new-pictures.ensures c.end_of-first_frame.ensures
