use Rattle.std.proofs.Common.{arith, length, length-append}
use Rattle.command_text.proofs.LinesLaws.{total-append, cut-append}
use Rattle.command_text.proofs.lines.Lines.push.Goals as goal

pub invariant_of-self-2 : goal.invariant_of-self-2
invariant_of-self-2 c =
    rw (c.push_reserved.ensures.items, c.in_ok-extend_from_slice.ensures.items, c.in_ok-reserve.ensures.items)
    (omega (
      arith,
      total-append c.self.inside.lengths.items (length c.args.line.now),
      length-append c.self.inside.text.items c.args.line.now,
      c.self.invariant,
    ))

pub returns-clause-ok : goal.returns-clause-ok
returns-clause-ok c =
    rw (c.push_reserved.ensures.items, c.in_ok-extend_from_slice.ensures.items, c.in_ok-reserve.ensures.items, ← c.self.view_is)
    (cut-append _ _ _ c.self.invariant)
