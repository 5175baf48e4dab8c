use Rattle.std.proofs.Common.{map}
use Rattle.command_text.specs.AnswerNames.{channel_line}
use Rattle.command_text.proofs.LineLoops.{Leaves}
use Rattle.daemon_core.proofs.talk.write_channels.Given as goal

abbrev pub invariant-loop-channel : goal.invariant-loop-channel
invariant-loop-channel l = Leaves channel_line l.channels (map (λ name. name.now) l.channel-iterator) l.fn.out l.out
