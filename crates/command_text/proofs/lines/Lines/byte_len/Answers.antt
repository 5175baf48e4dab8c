use Rattle.std.proofs.Common.{length, ap, arith}
use Rattle.command_text.proofs.LinesLaws.{concat-cut}
use Rattle.command_text.proofs.lines.Lines.byte_len.Goals as goal

pub returns : goal.returns
returns c = rw (← c.self.view_is)
    (omega (arith, c.len.ensures, ap length (concat-cut c.self.inside.lengths.items c.self.inside.text.items c.self.invariant)))
