use Rattle.std.proofs.Common.{map}
use Rattle.command_text.specs.AnswerNames.{channel_line}
use Rattle.command_text.proofs.LineLoops.{leaves_fewer, leaves_none, leaves_off}
use Rattle.daemon_core.proofs.talk.write_channels.Goals as goal

pub loop-channel-preserved : goal.loop-channel-preserved
loop-channel-preserved c =
    leaves_fewer channel_line c.args.channels.now c.in-Some.channel.now.now (map (λ name. name.now) c.next.new.self) _ _ _ _
    (rw c.in-Some.ensures.steps at c.loop-channel.invariant) c.in_ok-write_channel.ensures

pub returns-in_err-write_channel : goal.returns-in_err-write_channel
returns-in_err-write_channel c =
    leaves_off channel_line c.args.channels.now c.in-Some.channel.now.now (map (λ name. name.now) c.next.new.self) _ _ _ _ _
    (rw c.in-Some.ensures.steps at c.loop-channel.invariant) c.in_err-write_channel.ensures c.from_residual.ensures.0

pub returns : goal.returns
returns c = leaves_none channel_line c.args.channels.now _ _ _ (rw c.in-None.ensures.steps.0 at c.loop-channel.invariant)
