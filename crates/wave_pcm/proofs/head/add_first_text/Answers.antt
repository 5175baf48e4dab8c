use Rattle.std.proofs.Common.{◌+◌, ◌≤◌, ap, sym, length, arith, None, Some}
use Rattle.wave_pcm.specs.Reading.{with_found}
use Rattle.wave_pcm.proofs.Finds.{text_found}
use Rattle.wave_pcm.proofs.head.add_first_text.Goals as goal

pub add_text-requires : goal.add_text-requires
add_text-requires g c = let end = c.args.listing.now.bounded in omega (arith, c.in-Some.ensures.within, end)

pub returns-in-Some-clause-text : goal.returns-in-Some-clause-text
returns-in-Some-clause-text g c = λ told within.
    let inside : c.in-Some.head.first + c.in-Some.head.len ≤ length (g.S.Source.bytes c.args.source.now) = omega (
      arith,
      c.in-Some.ensures.within,
      within,
    ) in
    rw (text_found (g.S.Source.bytes c.args.source.now) c.args.listing.now.parts.items c.args.tag (Some c.in-Some.head)
    c.in-Some.ensures.found) (c.add_text.ensures.text told inside)

pub returns-in-None-clause-text : goal.returns-in-None-clause-text
returns-in-None-clause-text g c = λ told within.
    ap (with_found c.args.tags.now c.args.tag)
    (sym (text_found (g.S.Source.bytes c.args.source.now) c.args.listing.now.parts.items c.args.tag None c.in-None.ensures.found))
