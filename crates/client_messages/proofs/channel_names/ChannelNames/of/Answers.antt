use Rattle.std.proofs.Common.{◌≡◌, ◌∙◌, ap, arith}
use Rattle.client_messages.specs.Names.{with_names, channels_in}
use Rattle.client_messages.proofs.NameSteps.{channels_more}
use Rattle.client_messages.proofs.channel_names.ChannelNames.of.Goals as goal

-- the channels of one more client are in
pub loop-listener-preserved : goal.loop-listener-preserved
loop-listener-preserved c =
    let item = c.listener-item.result in
    let added : c.add_each.new.self ≡ with_names c.loop-listener.names item.channels =
    c.in_ok-add_each.ensures ∙ ap (with_names c.loop-listener.names) c.as_slice.ensures.names in
    channels_more c.args.listeners.now c.loop-listener.listener-index item item c.loop-listener.names c.add_each.new.self
    (channels_in c.args.listeners.now) (omega arith) c.listener-item.is added c.loop-listener.invariant
