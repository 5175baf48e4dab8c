use Rattle.std.proofs.Common.{◌≡◌, ◌+◌, ◌∙◌, ap, sym, length, true, false, arith}
use Rattle.std.proofs.lemmas.Grind.{common_steps}
use Rattle.std.proofs.lemmas.Result.{err_from_is_err_and}
use Rattle.song_files.specs.Source.{Grows}
use Rattle.song_files.proofs.Sources.{keeps_then, grows_after}
use Rattle.flac.specs.Blocks.{blocks_from}
use Rattle.flac.specs.Reading.{has_marker_at, reading_of, flac_reading}
use Rattle.flac.specs.declared.blocks.TheConstants.{MAX_BLOCKS}
use Rattle.flac.proofs.Heads.{not_flac, no_blocks, by_blocks}
use Rattle.flac.proofs.Verdicts.{refuses_by, refused_by}
use Rattle.flac.proofs.head.read_flac.Goals as goal

pub returns-then-not-branch-clause-refused : goal.returns-then-not-branch-clause-refused
returns-then-not-branch-clause-refused g c = λ told.
    let all : c.len-end.result ≡ length (g.S.Source.bytes c.args.source.now) = c.len-end.ensures told in
    let kept = c.in_ok-start.ensures.kept told in
    let here : c.len-end.result ≡ length (g.S.Source.bytes c.find_start.new.source) = rw kept.same all in
    let no' : has_marker_at (g.S.Source.bytes c.args.source.now) c.in_ok-start.start ≡ false
    = sym (rw kept.same at (c.in_ok-has_marker.ensures.told kept.is_honest here)) ∙ (grind (arith, common_steps)) in
    not_flac (g.S.Source.bytes c.args.source.now) c.in_ok-start.start (c.in_ok-start.ensures.start told all) no'

pub returns-in_err-blocks-clause-refused : goal.returns-in_err-blocks-clause-refused
returns-in_err-blocks-clause-refused g c = λ told.
    let all : c.len-end.result ≡ length (g.S.Source.bytes c.args.source.now) = c.len-end.ensures told in
    let kept = c.in_ok-start.ensures.kept told in
    let here : c.len-end.result ≡ length (g.S.Source.bytes c.find_start.new.source) = rw kept.same all in
    let yes' : has_marker_at (g.S.Source.bytes c.args.source.now) c.in_ok-start.start ≡ true
    = sym (rw kept.same at (c.in_ok-has_marker.ensures.told kept.is_honest here)) ∙ (grind (arith, common_steps)) in
    let next = keeps_then kept (c.in_ok-has_marker.ensures.kept kept.is_honest) in
    let there : c.len-end.result ≡ length (g.S.Source.bytes c.has_marker.new.source) = rw next.same all in
    let p = err_from_is_err_and c.from_residual-in_err-blocks.result c.from_residual-in_err-blocks.ensures.1 in
    rw (p.1, p.2) (refuses_by (blocks_from MAX_BLOCKS (g.S.Source.bytes c.has_marker.new.source) (c.in_ok-start.start + 4)) _ _ _
    (grows_after _ _ _ next.counted)
    (λ e r. no_blocks (g.S.Source.bytes c.args.source.now) c.in_ok-start.start e (c.in_ok-start.ensures.start told all) yes'
    (ap (λ file. blocks_from MAX_BLOCKS file (c.in_ok-start.start + 4)) (sym next.same) ∙ r))
    _ (c.in_err-blocks.ensures.refused next.is_honest there))

pub returns-clause-head : goal.returns-clause-head
returns-clause-head g c = λ told.
    let all : c.len-end.result ≡ length (g.S.Source.bytes c.args.source.now) = c.len-end.ensures told in
    let kept = c.in_ok-start.ensures.kept told in
    let here : c.len-end.result ≡ length (g.S.Source.bytes c.find_start.new.source) = rw kept.same all in
    let yes' : has_marker_at (g.S.Source.bytes c.args.source.now) c.in_ok-start.start ≡ true
    = sym (rw kept.same at (c.in_ok-has_marker.ensures.told kept.is_honest here)) ∙ (grind (arith, common_steps)) in
    let next = keeps_then kept (c.in_ok-has_marker.ensures.kept kept.is_honest) in
    let there : c.len-end.result ≡ length (g.S.Source.bytes c.has_marker.new.source) = rw next.same all in
    let last = keeps_then next (c.in_ok-blocks.ensures.kept next.is_honest) in
    let still : c.len-end.result ≡ length (g.S.Source.bytes c.list_blocks.new.source) = rw last.same all in
    let whole : flac_reading (g.S.Source.bytes c.args.source.now) ≡ reading_of (g.S.Source.bytes c.list_blocks.new.source)
    c.as_slice.result.now
    = by_blocks (g.S.Source.bytes c.args.source.now) c.in_ok-start.start c.in_ok-blocks.blocks.items (c.in_ok-start.ensures.start
    told all) yes'
    (ap (λ file. blocks_from MAX_BLOCKS file (c.in_ok-start.start + 4)) (sym next.same) ∙ c.in_ok-blocks.ensures.listed
    next.is_honest there)
    ∙ ap (λ file. reading_of file c.in_ok-blocks.blocks.items) (sym last.same)
    ∙ ap (reading_of (g.S.Source.bytes c.list_blocks.new.source)) (sym c.as_slice.ensures.value) in
    rw whole (c.read_listed.ensures.head last.is_honest still)

pub returns-clause-refused : goal.returns-clause-refused
returns-clause-refused g c = λ told.
    let all : c.len-end.result ≡ length (g.S.Source.bytes c.args.source.now) = c.len-end.ensures told in
    let kept = c.in_ok-start.ensures.kept told in
    let here : c.len-end.result ≡ length (g.S.Source.bytes c.find_start.new.source) = rw kept.same all in
    let yes' : has_marker_at (g.S.Source.bytes c.args.source.now) c.in_ok-start.start ≡ true
    = sym (rw kept.same at (c.in_ok-has_marker.ensures.told kept.is_honest here)) ∙ (grind (arith, common_steps)) in
    let next = keeps_then kept (c.in_ok-has_marker.ensures.kept kept.is_honest) in
    let there : c.len-end.result ≡ length (g.S.Source.bytes c.has_marker.new.source) = rw next.same all in
    let last = keeps_then next (c.in_ok-blocks.ensures.kept next.is_honest) in
    let still : c.len-end.result ≡ length (g.S.Source.bytes c.list_blocks.new.source) = rw last.same all in
    let whole : flac_reading (g.S.Source.bytes c.args.source.now) ≡ reading_of (g.S.Source.bytes c.list_blocks.new.source)
    c.as_slice.result.now
    = by_blocks (g.S.Source.bytes c.args.source.now) c.in_ok-start.start c.in_ok-blocks.blocks.items (c.in_ok-start.ensures.start
    told all) yes'
    (ap (λ file. blocks_from MAX_BLOCKS file (c.in_ok-start.start + 4)) (sym next.same) ∙ c.in_ok-blocks.ensures.listed
    next.is_honest there)
    ∙ ap (λ file. reading_of file c.in_ok-blocks.blocks.items) (sym last.same)
    ∙ ap (reading_of (g.S.Source.bytes c.list_blocks.new.source)) (sym c.as_slice.ensures.value) in
    refused_by c.read_listed.result (reading_of (g.S.Source.bytes c.list_blocks.new.source) c.as_slice.result.now) (flac_reading
    (g.S.Source.bytes c.args.source.now))
    (Grows (g.S.Source.faults c.list_blocks.new.source) (g.S.Source.faults c.read_listed.new.source))
    (Grows (g.S.Source.faults c.args.source.now) (g.S.Source.faults c.read_listed.new.source)) (grows_after _ _ _ last.counted)
    (λ e r. whole ∙ r) (c.read_listed.ensures.refused last.is_honest still)
