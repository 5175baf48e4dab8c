use Rattle.std.proofs.Common.{ap, codes}
use Rattle.command_text.specs.Answer.{pair}
use Rattle.command_text.specs.AnswerNames.{channel_line}
use Rattle.command_text.proofs.Adding.{adds_same, adds_stop, adds_then}
use Rattle.command_text.proofs.answer.names.write_message.Goals as goal

pub returns-in_err-write_channel : goal.returns-in_err-write_channel
returns-in_err-write_channel c =
    adds_stop (channel_line c.args.channel.now) (pair (codes "message") c.args.text.now) _ _ _ _ c.in_err-write_channel.ensures
    c.from_residual.ensures.0

pub returns : goal.returns
returns c =
    adds_then (channel_line c.args.channel.now) (pair (codes "message") c.args.text.now) _ _ _ _ _ c.in_ok-write_channel.ensures
    (adds_same _ _ _ _ _ c.write_pair.ensures (ap (λ t. pair (codes "message") t) c.as_bytes.ensures.value))
