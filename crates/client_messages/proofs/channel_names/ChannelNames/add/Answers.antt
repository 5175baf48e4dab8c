use Rattle.std.proofs.Common.{ap, ◌∙◌}
use Rattle.client_messages.specs.Names.{with_name}
use Rattle.client_messages.proofs.NameSteps.{shown, insert_key-shown}
use Rattle.client_messages.proofs.channel_names.ChannelNames.add.Goals as goal

pub returns : goal.returns
returns c = ap shown c.in_ok-insert.ensures.keys ∙ insert_key-shown c.self.inside.names.keys c.args.name
    ∙ ap (λ names. with_name names c.args.name.now) c.self.view_is
