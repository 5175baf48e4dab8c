use Rattle.std.proofs.Common.{arith}
use Rattle.command_text.proofs.LinesLaws.{length-cut}
use Rattle.command_text.proofs.lines.Lines.len.Goals as goal

pub returns : goal.returns
returns c = rw (← c.self.view_is) (omega (arith, c.len.ensures, length-cut c.self.inside.lengths.items c.self.inside.text.items))
