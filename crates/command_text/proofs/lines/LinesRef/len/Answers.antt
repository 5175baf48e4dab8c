use Rattle.std.proofs.Common.{arith}
use Rattle.command_text.proofs.LinesLaws.{length-cut}
use Rattle.command_text.proofs.lines.LinesRef.len.Goals as goal

pub returns-in-Some : goal.returns-in-Some
returns-in-Some c =
    rw (← c.self.view_is, c.in-Some.is) (omega (arith, length-cut c.self.inside.lengths.now c.self.inside.text.now))
