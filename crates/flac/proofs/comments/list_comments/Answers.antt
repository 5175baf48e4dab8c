use Rattle.std.proofs.Common.{◌≡◌, ◌+◌, ◌≤◌, ◌∙◌, ap, sym, refl, arith, length, slice_range, lit≤}
use Rattle.std.proofs.lemmas.Result.{err_from_is_err_and}
use Rattle.std.proofs.lemmas.Grind.{common_steps}
use Rattle.song_files.specs.Source.{Grows}
use Rattle.song_files.proofs.Sources.{keeps_then, grows_after}
use Rattle.flac.specs.Comments.{text_len_in, texts_in, kept_of}
use Rattle.flac.proofs.FieldList.{fields_begin, fields_more, fields_cut, fields_end}
use Rattle.flac.proofs.Verdicts.{fails_more}
use Rattle.flac.proofs.comments.list_comments.Goals as goal

pub fields-init : goal.fields-init
fields-init g c = (
  c.requires,
  grind (arith, common_steps),
  λ told. record { is_honest = told; same = refl; counted = omega arith; stays = λ steady. steady },
  λ told within. fields_begin 256 _ (texts_in c.args.count (slice_range (g.S.Source.bytes c.args.source.now) c.args.start c.args.end))
      c.new-comments.ensures.items,
)

pub returns-in_err-len-clause-fault : goal.returns-in_err-len-clause-fault
returns-in_err-len-clause-fault g c = λ told within.
    let kept = c.fields.invariant.2 told in
    let inside : c.args.end ≤ length (g.S.Source.bytes c.fields.source) = rw kept.same within in
    let p = err_from_is_err_and c.from_residual.result c.from_residual.ensures.1 in
    rw (p.1, p.2) (fails_more _ _ (grows_after _ _ _ kept.counted) _ (c.in_err-len.ensures.fault kept.is_honest inside))

pub returns-in_default-clause-listed : goal.returns-in_default-clause-listed
returns-in_default-clause-listed g c = λ told within.
    let kept = c.fields.invariant.2 told in
    let inside : c.args.end ≤ length (g.S.Source.bytes c.fields.source) = rw kept.same within in
    let few : length c.fields.comments.items ≤ 256 = omega arith in
    fields_cut 256 c.fields.left (slice_range (g.S.Source.bytes c.args.source.now) c.fields.at c.args.end) _ _ (omega arith) few
    (c.fields.invariant.3 told within) (rw kept.same at (rw c.in_default.is at (c.in_ok-len.ensures.len kept.is_honest inside)))

pub returns-in_default-clause-kept : goal.returns-in_default-clause-kept
returns-in_default-clause-kept g c = λ told.
    let kept = c.fields.invariant.2 told in keeps_then kept (c.in_ok-len.ensures.kept kept.is_honest)

pub returns-in_err-add_comment-clause-fault : goal.returns-in_err-add_comment-clause-fault
returns-in_err-add_comment-clause-fault g c = λ told within.
    let kept = c.fields.invariant.2 told in
    let next = keeps_then kept (c.in_ok-len.ensures.kept kept.is_honest) in
    let here = rw c.in-Some.is at c.in_ok-len.ensures.within in
    let room : c.fields.at + 4 + c.in-Some.len ≤ length (g.S.Source.bytes c.read_text_len.new.source) = rw next.same (omega (arith, here, within)) in
    let p = err_from_is_err_and c.from_residual-in_err-add_comment.result c.from_residual-in_err-add_comment.ensures.1 in
    rw (p.1, p.2) (fails_more _ _ (grows_after _ _ _ next.counted) _ (c.in_err-add_comment.ensures.fault next.is_honest room))

pub fields-preserved : goal.fields-preserved
fields-preserved g c =
    let here = rw c.in-Some.is at c.in_ok-len.ensures.within in (
      omega (arith, here),
      c.in_ok-add_comment.ensures.few,
      λ told. let kept = c.fields.invariant.2 told in
          let next = keeps_then kept (c.in_ok-len.ensures.kept kept.is_honest) in
          keeps_then next (c.in_ok-add_comment.ensures.kept next.is_honest),
      λ told within.
          let kept = c.fields.invariant.2 told in
          let inside : c.args.end ≤ length (g.S.Source.bytes c.fields.source) = rw kept.same within in
          let next = keeps_then kept (c.in_ok-len.ensures.kept kept.is_honest) in
          let room : c.fields.at + 4 + c.in-Some.len ≤ length (g.S.Source.bytes c.read_text_len.new.source) = rw next.same (omega (
            arith,
            here,
            within,
          )) in
          fields_more 256 c.fields.left c.fields.at (c.fields.at + 4) (c.fields.at + 4 + c.in-Some.len) c.args.end c.in-Some.len
          (g.S.Source.bytes c.args.source.now) c.fields.comments.items _ _ (omega arith) here refl (omega arith)
          (rw kept.same at (rw c.in-Some.is at (c.in_ok-len.ensures.len kept.is_honest inside)))
          (rw next.same at (c.in_ok-add_comment.ensures.added next.is_honest room)) (c.fields.invariant.3 told within),
    )

pub returns-clause-listed : goal.returns-clause-listed
returns-clause-listed g c = λ told within.
    let few : length c.fields.comments.items ≤ 256 = omega arith in
    fields_end 256 c.fields.left _ _ _ (omega arith) few (c.fields.invariant.3 told within)
