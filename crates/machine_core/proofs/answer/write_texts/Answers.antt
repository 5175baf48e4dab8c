use Rattle.std.proofs.Common.{map}
use Rattle.command_text.specs.Answer.{pair}
use Rattle.command_text.proofs.LineLoops.{leaves_fewer, leaves_none, leaves_off}
use Rattle.machine_core.proofs.answer.write_texts.Goals as goal

pub loop-text-preserved : goal.loop-text-preserved
loop-text-preserved c =
    leaves_fewer (pair c.args.key.now) c.args.texts.now c.in-Some.text.now.now (map (λ text. text.now) c.next.new.self) _ _ _ _
    (rw c.in-Some.ensures.steps at c.loop-text.invariant) (rw c.as_bytes.ensures.value at c.in_ok-write_pair.ensures)

pub returns-in_err-write_pair : goal.returns-in_err-write_pair
returns-in_err-write_pair c =
    leaves_off (pair c.args.key.now) c.args.texts.now c.in-Some.text.now.now (map (λ text. text.now) c.next.new.self) _ _ _ _ _
    (rw c.in-Some.ensures.steps at c.loop-text.invariant) (rw c.as_bytes.ensures.value at c.in_err-write_pair.ensures)
    c.from_residual.ensures.0

pub returns : goal.returns
returns c = leaves_none (pair c.args.key.now) c.args.texts.now _ _ _ (rw c.in-None.ensures.steps.0 at c.loop-text.invariant)
