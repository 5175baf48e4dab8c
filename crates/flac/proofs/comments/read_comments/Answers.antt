use Rattle.std.proofs.Common.{◌≡◌, ◌+◌, ◌≤◌, ◌∙◌, ap, sym, length, arith}
use Rattle.flac.specs.Blocks.{body_of}
use Rattle.flac.specs.Comments.{comments_at, comments_in, comments_of}
use Rattle.flac.proofs.comments.read_comments.Goals as goal

pub read_block-requires : goal.read_block-requires
read_block-requires g c = omega (arith, c.in-Some.ensures.within c.args.end c.requires)

pub returns-in-Some-clause-listed : goal.returns-in-Some-clause-listed
returns-in-Some-clause-listed g c = λ told all.
    let inside : c.in-Some.block.first + c.in-Some.block.len ≤ length (g.S.Source.bytes c.args.source.now) = omega (
      arith,
      c.in-Some.ensures.within c.args.end c.requires,
      all,
    ) in
    let same : comments_of (g.S.Source.bytes c.args.source.now) c.args.blocks.now ≡ comments_in (body_of (g.S.Source.bytes
    c.args.source.now) c.in-Some.block)
    = ap (comments_at (g.S.Source.bytes c.args.source.now)) (sym c.in-Some.ensures.found) in
    rw same (c.read_block.ensures.listed told inside)

pub returns-in-Some-clause-fault : goal.returns-in-Some-clause-fault
returns-in-Some-clause-fault g c = λ told all.
    let inside : c.in-Some.block.first + c.in-Some.block.len ≤ length (g.S.Source.bytes c.args.source.now) = omega (
      arith,
      c.in-Some.ensures.within c.args.end c.requires,
      all,
    ) in
    c.read_block.ensures.fault told inside

pub returns-in-None-clause-listed : goal.returns-in-None-clause-listed
returns-in-None-clause-listed g c = λ told all.
    c.new.ensures.items ∙ sym (ap (comments_at (g.S.Source.bytes c.args.source.now)) (sym c.in-None.ensures.found))
