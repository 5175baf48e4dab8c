use Rattle.std.proofs.Common.{◌≡◌, drop}
use Rattle.client_messages.specs.Names.{with_names}
use Rattle.client_messages.proofs.channel_names.ChannelNames.add_each.Given as goal

-- with those that are left, all of them
abbrev pub invariant-loop-channel : goal.invariant-loop-channel
invariant-loop-channel l = with_names l.self (drop l.channel-index l.channels) ≡ with_names l.fn.self l.channels
