use Rattle.std.proofs.Common.{◌≡◌, ◌+◌, ◌≤◌, ◌∙◌, ap, sym, length, refl, arith, slice_range}
use Rattle.std.proofs.lemmas.Result.{err_from_is_err_and}
use Rattle.song_files.proofs.Sources.{keeps_then, grows_after}
use Rattle.flac.specs.Blocks.{body_of}
use Rattle.flac.specs.Comments.{comments_in, kept_of, texts_in}
use Rattle.flac.proofs.FieldList.{no_vendor, number_there, comments_there}
use Rattle.flac.proofs.Verdicts.{fails_more, failed_more}
use Rattle.flac.proofs.comments.read_block.Goals as goal

pub returns-in_default-clause-listed : goal.returns-in_default-clause-listed
returns-in_default-clause-listed g c = λ told within.
    no_vendor (body_of (g.S.Source.bytes c.args.source.now) c.args.block) _ (rw c.in_default.is at (c.in_ok-vendor.ensures.len told within))
    c.new.ensures.items

pub returns-in_err-count-clause-fault : goal.returns-in_err-count-clause-fault
returns-in_err-count-clause-fault g c = λ told within.
    let kept = c.in_ok-vendor.ensures.kept told in
    let inside : c.args.block.first + c.args.block.len ≤ length (g.S.Source.bytes c.read_text_len.new.source) = rw kept.same within in
    let p = err_from_is_err_and c.from_residual-in_err-count.result c.from_residual-in_err-count.ensures.1 in
    rw (p.1, p.2) (fails_more _ _ (grows_after _ _ _ kept.counted) _ (c.in_err-count.ensures.fault kept.is_honest inside))

pub returns-in_default-2-clause-listed : goal.returns-in_default-2-clause-listed
returns-in_default-2-clause-listed g c = λ told within.
    let kept = c.in_ok-vendor.ensures.kept told in
    let inside : c.args.block.first + c.args.block.len ≤ length (g.S.Source.bytes c.read_text_len.new.source) = rw kept.same within in
    let room = rw c.in-Some.is at c.in_ok-vendor.ensures.within in
    number_there (g.S.Source.bytes c.args.source.now) (g.S.Source.bytes c.read_text_len.new.source) c.args.block.first
    (c.args.block.first + c.args.block.len) c.in-Some.vendor (c.args.block.first + 4 + c.in-Some.vendor) _ kept.same room refl
    (rw c.in-Some.is at (c.in_ok-vendor.ensures.len told within))
    (rw c.in_default-2.is at (c.in_ok-count.ensures.count kept.is_honest inside)) c.new-in_default-2.ensures.items

pub returns-clause-listed : goal.returns-clause-listed
returns-clause-listed g c = λ told within.
    let kept = c.in_ok-vendor.ensures.kept told in
    let inside : c.args.block.first + c.args.block.len ≤ length (g.S.Source.bytes c.read_text_len.new.source) = rw kept.same within in
    let next = keeps_then kept (c.in_ok-count.ensures.kept kept.is_honest) in
    let still : c.args.block.first + c.args.block.len ≤ length (g.S.Source.bytes c.read_count.new.source) = rw next.same within in
    let room = rw c.in-Some.is at c.in_ok-vendor.ensures.within in
    let more = rw c.in-Some-2.is at c.in_ok-count.ensures.within in
    let same : comments_in (body_of (g.S.Source.bytes c.args.source.now) c.args.block) ≡ kept_of (texts_in c.min.result (slice_range
    (g.S.Source.bytes c.read_count.new.source) (c.args.block.first + 4 + c.in-Some.vendor + 4) (c.args.block.first +
    c.args.block.len)))
    = comments_there (g.S.Source.bytes c.args.source.now) (g.S.Source.bytes c.read_count.new.source) c.args.block.first
    (c.args.block.first + c.args.block.len) c.in-Some.vendor (c.args.block.first + 4 + c.in-Some.vendor)
    (c.args.block.first + 4 + c.in-Some.vendor + 4) c.in-Some-2.count c.min.result next.same room
    more refl refl c.min.ensures (rw c.in-Some.is at (c.in_ok-vendor.ensures.len told within))
    (rw kept.same at (rw c.in-Some-2.is at (c.in_ok-count.ensures.count kept.is_honest inside))) in
    rw same (c.list_comments.ensures.listed next.is_honest still)

pub returns-clause-fault : goal.returns-clause-fault
returns-clause-fault g c = λ told within.
    let kept = c.in_ok-vendor.ensures.kept told in
    let next = keeps_then kept (c.in_ok-count.ensures.kept kept.is_honest) in
    let still : c.args.block.first + c.args.block.len ≤ length (g.S.Source.bytes c.read_count.new.source) = rw next.same within in
    failed_more c.list_comments.result _ _ (grows_after _ _ _ next.counted) (c.list_comments.ensures.fault next.is_honest still)
