use Rattle.std.proofs.Common.{map}
use Rattle.command_text.specs.Answer.{pair}
use Rattle.command_text.proofs.LineLoops.{Leaves}
use Rattle.machine_core.proofs.answer.write_texts.Given as goal

abbrev pub invariant-loop-text : goal.invariant-loop-text
invariant-loop-text l = Leaves (pair l.key) l.texts (map (λ text. text.now) l.text-iterator) l.fn.out l.out
