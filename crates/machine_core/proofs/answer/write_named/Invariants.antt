use Rattle.command_text.specs.AnswerNames.{sticker_line}
use Rattle.command_text.proofs.LineLoops.{Leaves}
use Rattle.machine_core.proofs.answer.write_named.Given as goal

abbrev pub invariant-loop-name : goal.invariant-loop-name
invariant-loop-name l = Leaves (λ named. sticker_line named.0 named.1) l.song l.name-iterator l.fn.out l.out
