use Rattle.std.proofs.Common.{◌≡◌, ◌≤◌, ◌∙◌, sym, ap, length, true, false, arith}
use Rattle.std.proofs.lemmas.Grind.{common_steps}
use Rattle.std.proofs.lemmas.Result.{err_from_is_err_and}
use Rattle.std.specs.Prelude.{IfErr}
use Rattle.song_files.specs.Source.{Grows}
use Rattle.wave_pcm.specs.PartHead.{parts_at}
use Rattle.wave_pcm.specs.Reading.{is_wave, wave_reading, reading_of, id3_place, Refuses}
use Rattle.wave_pcm.proofs.Readings.{not_wave, whole_reading, refused_more, all_parts}
use Rattle.song_files.proofs.Sources.{keeps_then, grows_after}
use Rattle.wave_pcm.proofs.head.read_wave.Goals as goal

pub returns-then-not-branch-clause-refused : goal.returns-then-not-branch-clause-refused
returns-then-not-branch-clause-refused g c = λ told.
    let begins : is_wave (g.S.Source.bytes c.args.source.now) ≡ false = sym (c.in_ok-begins_as_wave.ensures.told told
    (c.len-end.ensures told)) ∙ (grind (arith, common_steps)) in
    not_wave c.args.wanted (g.S.Source.bytes c.args.source.now) begins

pub returns-clause-head : goal.returns-clause-head
returns-clause-head g c = λ told.
    let begins : is_wave (g.S.Source.bytes c.args.source.now) ≡ true = sym (c.in_ok-begins_as_wave.ensures.told told
    (c.len-end.ensures told)) ∙ (grind (arith, common_steps)) in
    let first = c.in_ok-begins_as_wave.ensures.kept told in
    let next = keeps_then first (c.in_ok-parts.ensures.kept first.is_honest) in
    let end : c.len-end.result ≤ length (g.S.Source.bytes c.args.source.now) = omega (arith, c.len-end.ensures told) in
    let inside : c.len-end.result ≤ length (g.S.Source.bytes c.begins_as_wave.new.source) = rw first.same end in
    let still : c.len-end.result ≤ length (g.S.Source.bytes c.list_parts.new.source) = rw next.same end in
    let whole : wave_reading (g.S.Source.bytes c.args.source.now) c.args.wanted
    ≡ reading_of (parts_at (g.S.Source.bytes c.list_parts.new.source)
    c.in_ok-parts.parts.items) c.args.wanted
    = whole_reading c.args.wanted (g.S.Source.bytes c.args.source.now) (g.S.Source.bytes c.begins_as_wave.new.source) (g.S.Source.bytes
    c.list_parts.new.source) c.in_ok-parts.parts.items c.len-end.result
    begins (c.len-end.ensures told) first.same next.same (c.in_ok-parts.ensures.listed first.is_honest inside) in
    rw whole (c.in_ok-info.ensures.head next.is_honest still)

pub returns-clause-id3 : goal.returns-clause-id3
returns-clause-id3 g c = λ told.
    let first = c.in_ok-begins_as_wave.ensures.kept told in
    let next = keeps_then first (c.in_ok-parts.ensures.kept first.is_honest) in
    let end : c.len-end.result ≤ length (g.S.Source.bytes c.args.source.now) = omega (arith, c.len-end.ensures told) in
    let inside : c.len-end.result ≤ length (g.S.Source.bytes c.begins_as_wave.new.source) = rw first.same end in
    let still : c.len-end.result ≤ length (g.S.Source.bytes c.list_parts.new.source) = rw next.same end in
    c.id3_place-id3.ensures.place (g.S.Source.bytes c.args.source.now) end
    ∙ ap id3_place (all_parts c.args.wanted (g.S.Source.bytes c.args.source.now) (g.S.Source.bytes c.begins_as_wave.new.source)
    (g.S.Source.bytes c.list_parts.new.source) c.in_ok-parts.parts.items c.len-end.result c.in_ok-info.info (c.len-end.ensures told)
    first.same next.same (c.in_ok-parts.ensures.listed first.is_honest inside) (c.in_ok-info.ensures.head next.is_honest still))

pub returns-in_err-info-clause-refused : goal.returns-in_err-info-clause-refused
returns-in_err-info-clause-refused g c = λ told.
    let p = err_from_is_err_and c.from_residual-in_err-info.result c.from_residual-in_err-info.ensures.1 in
    let begins : is_wave (g.S.Source.bytes c.args.source.now) ≡ true = sym (c.in_ok-begins_as_wave.ensures.told told
    (c.len-end.ensures told)) ∙ (grind (arith, common_steps)) in
    let first = c.in_ok-begins_as_wave.ensures.kept told in
    let next = keeps_then first (c.in_ok-parts.ensures.kept first.is_honest) in
    let end : c.len-end.result ≤ length (g.S.Source.bytes c.args.source.now) = omega (arith, c.len-end.ensures told) in
    let inside : c.len-end.result ≤ length (g.S.Source.bytes c.begins_as_wave.new.source) = rw first.same end in
    let still : c.len-end.result ≤ length (g.S.Source.bytes c.list_parts.new.source) = rw next.same end in
    let whole : wave_reading (g.S.Source.bytes c.args.source.now) c.args.wanted
    ≡ reading_of (parts_at (g.S.Source.bytes c.list_parts.new.source)
    c.in_ok-parts.parts.items) c.args.wanted
    = whole_reading c.args.wanted (g.S.Source.bytes c.args.source.now) (g.S.Source.bytes c.begins_as_wave.new.source) (g.S.Source.bytes
    c.list_parts.new.source) c.in_ok-parts.parts.items c.len-end.result
    begins (c.len-end.ensures told) first.same next.same (c.in_ok-parts.ensures.listed first.is_honest inside) in
    let refused : IfErr c.from_residual-in_err-info.result (Refuses (reading_of (parts_at (g.S.Source.bytes c.list_parts.new.source)
    c.in_ok-parts.parts.items) c.args.wanted) (Grows (g.S.Source.faults c.list_parts.new.source) (g.S.Source.faults
    c.read_listing.new.source))) = rw (p.1, p.2) (c.in_err-info.ensures.refused next.is_honest still) in
    rw whole (refused_more c.from_residual-in_err-info.result (reading_of (parts_at (g.S.Source.bytes c.list_parts.new.source)
    c.in_ok-parts.parts.items) c.args.wanted)
    (Grows (g.S.Source.faults c.list_parts.new.source) (g.S.Source.faults c.read_listing.new.source)) (Grows (g.S.Source.faults
    c.args.source.now) (g.S.Source.faults c.read_listing.new.source))
    (grows_after _ _ _ next.counted) refused)
