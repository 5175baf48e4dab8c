use Rattle.std.proofs.Common.{◌≡◌, drop}
use Rattle.std.specs.List.{flat_map}
use Rattle.client_messages.specs.Names.{with_names, channels_in}
use Rattle.client_messages.specs.declared.listener.Listener.{Listener}
use Rattle.client_messages.proofs.channel_names.ChannelNames.of.Given as goal

-- with the channels of the clients that are left, all of them
abbrev pub invariant-loop-listener : goal.invariant-loop-listener
invariant-loop-listener l =
    with_names l.names (flat_map (λ (k : Listener). k.channels) (drop l.listener-index l.listeners)) ≡ channels_in l.listeners
