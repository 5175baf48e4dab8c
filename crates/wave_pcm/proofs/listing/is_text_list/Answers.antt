use Rattle.std.proofs.Common.{◌≡◌, ◌+◌, ◌≤◌, ◌∙◌, ap, sym, arith, true, slice_range, rules}
use Rattle.wave_pcm.specs.Parts.{is_info, is_nested}
use Rattle.std.specs.Str.{bytes_eq}
use Rattle.std.specs.Prelude.{codes, ◌&&◌}
use Rattle.song_files.proofs.Ranges.{take-range}
use Rattle.wave_pcm.proofs.listing.is_text_list.Goals as goal

pub returns-clause-told : goal.returns-clause-told
returns-clause-told g c = λ told within.
    let nested : is_nested c.args.kind ≡ true = search rules in
    let room : 4 ≤ c.args.head.len = omega arith in
    c.eq.ensures
    ∙ ap (λ front. bytes_eq front (codes "INFO")) (c.in_ok-read_exact.ensures.read told
    ∙ sym (take-range (g.S.Source.bytes c.args.source.now) c.args.head.first 4 c.args.head.len room))
    ∙ ap (λ yes. yes && is_info (slice_range (g.S.Source.bytes c.args.source.now) c.args.head.first (c.args.head.first +
    c.args.head.len))) (sym nested)
