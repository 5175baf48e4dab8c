use Rattle.std.proofs.Common.{}
use Rattle.command_text.specs.AnswerNames.{sticker_line}
use Rattle.command_text.proofs.LineLoops.{leaves_fewer, leaves_none, leaves_off}
use Rattle.machine_core.proofs.answer.write_named.Goals as goal

pub loop-name-preserved : goal.loop-name-preserved
loop-name-preserved c =
    leaves_fewer (λ named. sticker_line named.0 named.1) c.args.song.now (c.in-Some.name.now, c.in-Some.value.now) c.next.new.self _ _ _ _
    (rw c.in-Some.ensures.steps at c.loop-name.invariant) (rw c.as_str.ensures.text at c.in_ok-write_sticker.ensures)

pub returns-in_err-write_sticker : goal.returns-in_err-write_sticker
returns-in_err-write_sticker c =
    leaves_off (λ named. sticker_line named.0 named.1) c.args.song.now (c.in-Some.name.now, c.in-Some.value.now) c.next.new.self _ _ _ _ _
    (rw c.in-Some.ensures.steps at c.loop-name.invariant)
    (rw c.as_str.ensures.text at c.in_err-write_sticker.ensures) c.from_residual.ensures.0

pub returns : goal.returns
returns c = leaves_none (λ named. sticker_line named.0 named.1) c.args.song.now _ _ _
    (rw c.in-None.ensures.steps.0 at c.loop-name.invariant)
