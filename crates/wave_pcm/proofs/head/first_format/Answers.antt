use Rattle.std.proofs.Common.{◌≡◌, ◌+◌, ◌≤◌, sym, true, false, length, arith, rules}
use Rattle.wave_pcm.specs.Parts.{is_format}
use Rattle.wave_pcm.proofs.Finds.{format_found, data_stands_first, no_key}
use Rattle.wave_pcm.proofs.head.first_format.Goals as goal

pub read_format-requires : goal.read_format-requires
read_format-requires g c = let end = c.args.listing.now.bounded in omega (arith, c.in-Some.ensures.within, end)

pub returns-then-is_format-clause-format : goal.returns-then-is_format-clause-format
returns-then-is_format-clause-format g c = λ told within.
    let format : is_format c.in-Some.head.kind ≡ true = search rules in
    let inside : c.in-Some.head.first + c.in-Some.head.len ≤ length (g.S.Source.bytes c.args.source.now) = omega (
      arith,
      c.in-Some.ensures.within,
      within,
    ) in
    rw (format_found (g.S.Source.bytes c.args.source.now) c.args.listing.now.parts.items c.in-Some.head c.in-Some.ensures.found
    format) (c.read_format.ensures.format told inside)

pub returns-then-is_format-clause-refused : goal.returns-then-is_format-clause-refused
returns-then-is_format-clause-refused g c = λ told within.
    let format : is_format c.in-Some.head.kind ≡ true = search rules in
    let inside : c.in-Some.head.first + c.in-Some.head.len ≤ length (g.S.Source.bytes c.args.source.now) = omega (
      arith,
      c.in-Some.ensures.within,
      within,
    ) in
    rw (format_found (g.S.Source.bytes c.args.source.now) c.args.listing.now.parts.items c.in-Some.head c.in-Some.ensures.found
    format) (c.read_format.ensures.refused told inside)

pub returns-else-is_format-clause-refused : goal.returns-else-is_format-clause-refused
returns-else-is_format-clause-refused g c = λ told within.
    data_stands_first (g.S.Source.bytes c.args.source.now) c.args.listing.now.parts.items c.in-Some.head c.in-Some.ensures.found
    (sym c.if-is_format.ensures)

pub returns-then-is_long-clause-refused : goal.returns-then-is_long-clause-refused
returns-then-is_long-clause-refused g c = λ told within. no_key (g.S.Source.bytes c.args.source.now) c.args.listing.now.parts.items
    true c.in-None.ensures.found (sym c.if-is_long.ensures)

pub returns-else-is_long-clause-refused : goal.returns-else-is_long-clause-refused
returns-else-is_long-clause-refused g c = λ told within. no_key (g.S.Source.bytes c.args.source.now) c.args.listing.now.parts.items
    false c.in-None.ensures.found (sym c.if-is_long.ensures)
