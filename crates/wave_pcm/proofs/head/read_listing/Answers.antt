use Rattle.std.proofs.Common.{◌+◌, ◌≤◌, ◌∙◌, ap, sym, length, Ok, arith}
use Rattle.wave_pcm.specs.PartHead.{part_at, parts_at}
use Rattle.wave_pcm.specs.Reading.{texts_in, info_of}
use Rattle.wave_pcm.proofs.Readings.{reading_ok, info_is, refuses_format, refuses_data}
use Rattle.std.proofs.lemmas.Result.{err_from_is_err_and}
use Rattle.song_files.specs.Source.{Grows}
use Rattle.wave_pcm.proofs.head.read_listing.Goals as goal

pub returns-clause-head : goal.returns-clause-head
returns-clause-head g c = λ told within.
    let kept = c.in_ok-format.ensures.kept told in
    let inside : c.args.listing.now.end ≤ length (g.S.Source.bytes c.first_format.new.source) = rw kept.same within in
    let stands : c.in_ok-data.data.first + c.in_ok-data.data.len ≤ length (g.S.Source.bytes c.args.source.now) = omega (
      arith,
      c.in_ok-data.ensures.within,
      within,
    ) in
    reading_ok c.args.wanted (parts_at (g.S.Source.bytes c.args.source.now) c.args.listing.now.parts.items) c.in_ok-format.format (part_at
    (g.S.Source.bytes c.args.source.now) c.in_ok-data.data)
    (c.in_ok-format.ensures.format told within) (c.in_ok-data.ensures.data (g.S.Source.bytes c.args.source.now))
    ∙ ap (λ texts. Ok (info_of c.in_ok-format.format (part_at (g.S.Source.bytes c.args.source.now) c.in_ok-data.data) texts))
    (sym (c.in_ok-tags.ensures.texts kept.is_honest inside
    ∙ ap (λ file. texts_in (parts_at file c.args.listing.now.parts.items) c.args.wanted) kept.same))
    ∙ ap Ok (info_is (g.S.Source.bytes c.args.source.now) c.in_ok-format.format c.in_ok-data.data c.in_ok-tags.tags c.from.result
    stands c.from.ensures)

pub returns-in_err-format-clause-refused : goal.returns-in_err-format-clause-refused
returns-in_err-format-clause-refused g c = λ told within.
    let p = err_from_is_err_and c.from_residual.result c.from_residual.ensures.1 in
    rw (p.1, p.2) (refuses_format c.args.wanted (parts_at (g.S.Source.bytes c.args.source.now) c.args.listing.now.parts.items) (Grows
    (g.S.Source.faults c.args.source.now) (g.S.Source.faults c.first_format.new.source)) _ (c.in_err-format.ensures.refused
    told within))

pub returns-in_err-data-clause-refused : goal.returns-in_err-data-clause-refused
returns-in_err-data-clause-refused g c = λ told within.
    let p = err_from_is_err_and c.from_residual-in_err-data.result c.from_residual-in_err-data.ensures.1 in
    rw (p.1, p.2) (refuses_data c.args.wanted (parts_at (g.S.Source.bytes c.args.source.now) c.args.listing.now.parts.items) (Grows
    (g.S.Source.faults c.args.source.now) (g.S.Source.faults c.first_format.new.source)) c.in_ok-format.format _
    c.in_err-data.ensures.verdict (c.in_ok-format.ensures.format told within) (c.in_err-data.ensures.refused (g.S.Source.bytes
    c.args.source.now)))
